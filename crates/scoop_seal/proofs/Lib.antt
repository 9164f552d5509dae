mod Blocks
mod Joins
mod Differences
mod Seals
mod Opening
mod Sending
