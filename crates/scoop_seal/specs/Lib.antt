pub mod Hmac
pub mod Key
pub mod System
pub mod Tag
pub mod Sealed
pub use Rattle.scoop_link.specs.Link
