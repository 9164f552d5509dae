pub mod Answering
pub mod Ends
pub mod Looping
pub mod RunningOut
pub mod Serving
