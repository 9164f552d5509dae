pub mod Keys
pub mod Weaving
pub mod Passing
pub mod Post
pub mod Trails
