pub mod Places
pub mod FullWindows
pub mod Batches
pub mod Retained
pub mod Ordering
pub mod Rows
pub mod DueRows
pub mod CommandRows
