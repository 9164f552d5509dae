pub mod Same
pub mod Packed
pub mod Places
pub mod BookLemmas
pub mod OpeningLemmas
pub mod Alls
pub mod NodeLemmas
pub mod ReopeningLemmas
