pub mod Kept
pub mod Exchanges
pub mod Tapes
mod Releasing
mod Silences
mod Udp
