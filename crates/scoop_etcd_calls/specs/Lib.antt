pub mod Asking
pub mod Stored
pub mod Answer
pub mod Written
