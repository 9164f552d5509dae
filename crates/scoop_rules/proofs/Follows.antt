pub mod Facts
pub mod Clients
pub mod Logging
pub mod Commands
pub mod Sets
pub mod Sites
pub mod Runs
