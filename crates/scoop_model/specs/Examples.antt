pub mod Parties
pub mod Repeats
pub mod GivingUp
pub mod Waits
pub mod LastIncarnation
