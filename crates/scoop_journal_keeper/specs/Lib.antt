pub mod Journaled
pub mod Shared
