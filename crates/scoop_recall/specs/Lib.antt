pub mod Recall
pub use Rattle.scoop_link.specs.Link
