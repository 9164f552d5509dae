pub mod Blank
pub mod Repeats
pub mod Class
pub mod Effect
pub mod Play
