pub mod Padded
pub mod Entry
pub mod Entries
pub mod Message
pub mod Range
pub mod Text
pub mod Lists
