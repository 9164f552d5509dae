pub mod Facts
pub mod Handlers
pub mod Clients
pub mod Runs
pub use Facts.*
pub use Handlers.*
pub use Clients.*
pub use Runs.*
