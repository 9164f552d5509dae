pub mod Taking
pub mod Admission
pub mod Budget
pub use Rattle.scoop_link.specs.Link
