pub mod Owner
pub mod Newest
pub mod Incarnation
