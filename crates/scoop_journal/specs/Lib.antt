pub mod Text
pub mod Line
pub mod Journal
pub mod Reading
