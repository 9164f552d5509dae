pub mod StepLists
pub mod Sends
pub mod Turns
pub mod Moves
pub mod Refusals
pub mod Blocks
pub mod Calling
pub mod Waits
