pub mod Facts
pub mod Clients
pub mod Steps
pub use Facts.*
pub use Clients.*
pub use Steps.*
