pub mod Backoff
pub mod Beginnings
pub mod Calling
pub mod Members
pub mod ClientLives
pub mod Cutting
pub mod NodeLives
pub mod Records
