pub mod Handlers
pub mod State
pub mod Due
pub mod Hearing
pub mod Rows
pub mod Starting
pub mod Orders
