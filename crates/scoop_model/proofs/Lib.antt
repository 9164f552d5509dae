pub mod Names
pub mod Basics
mod Same
mod Beginnings
pub mod Events
pub mod Keys
pub mod Sites
pub mod Stands
pub mod Moves
pub mod Reaching
pub mod Order
pub mod Sound
pub mod Logging
pub mod Knowing
pub mod Answering
pub mod Tape
pub mod Whole
pub mod Locking
pub mod Standing
pub mod Ready
pub mod Arriving
pub mod Granting
pub mod Told
pub mod Grants
pub mod Headline
pub mod OpenedExamples
