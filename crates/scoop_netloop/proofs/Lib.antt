pub mod Replying
pub mod Served
pub mod Turns
pub mod Firsts
pub mod Ended
pub mod Dry
pub mod Keeping
pub mod Looping
