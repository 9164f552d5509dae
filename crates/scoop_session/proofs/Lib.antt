pub mod Driven
mod Gathered
mod Inside
mod Turned
