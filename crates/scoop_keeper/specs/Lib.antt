pub use Rattle.scoop_handler.specs.State
pub mod Keyed
pub mod Keeper
pub mod Storing
pub mod Text
pub mod Advice
pub mod Memory
pub mod Failing
