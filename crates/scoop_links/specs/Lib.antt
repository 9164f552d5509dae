pub mod Forwarding
pub mod News
pub mod Texts
pub mod Turning
pub mod Waiting
