pub mod Slots
pub mod Fits
pub mod Taking
pub mod Shown
pub use Slots.*
pub use Fits.*
pub use Taking.*
pub use Shown.*
