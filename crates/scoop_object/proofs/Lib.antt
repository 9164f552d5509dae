pub mod Start
pub mod Same
pub mod SoFar
pub mod Lengths
pub mod Play
