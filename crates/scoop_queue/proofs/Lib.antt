pub mod OneChange
pub mod Ends
pub mod Found
pub mod Keeping
pub mod Kept
pub mod Lookup
pub mod Results
pub mod States
