pub mod History
pub mod Fate
pub mod Post
pub mod Reading
pub mod Refusal
pub mod Told
