mod Lists
mod Jobs
pub mod Numbering
pub mod Lives
pub mod Drivers
pub mod Clients
pub mod Nodes
