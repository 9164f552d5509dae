pub mod Errors
pub mod ErrorText
