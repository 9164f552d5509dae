pub mod Same
pub mod LastEntry
