pub mod Placing
pub mod OpenRefusal
pub mod Kept
pub mod Answers
pub mod Standing
