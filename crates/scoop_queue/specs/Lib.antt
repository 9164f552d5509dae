pub use Rattle.scoop_message.specs.Entries
pub mod Queue
pub mod Copying
pub mod Sound
pub mod Refusal
pub mod Kept
