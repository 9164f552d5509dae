pub mod Node
pub mod Client
pub mod Refusals
