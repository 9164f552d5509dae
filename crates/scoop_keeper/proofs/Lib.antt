pub mod Lists
pub mod Keyed
pub mod UsedUp
pub mod KeeperLemmas
pub mod MemoryLemmas
pub mod StoringLemmas
