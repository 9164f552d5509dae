pub mod Moves
pub mod Lines
pub mod Kept
pub mod Opening
pub mod Books
pub mod Passes
pub mod Closing
pub mod Reopening
