pub mod Facts
pub mod Counts
pub mod Readiness
pub mod Runs
pub use Facts.*
pub use Counts.*
pub use Readiness.*
pub use Runs.*
