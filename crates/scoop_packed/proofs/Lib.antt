pub mod Packing
mod OneMore
