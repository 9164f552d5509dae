pub mod Bound
pub mod Capped
pub mod Examples
pub mod Left
pub mod Next
pub mod Rounds
pub mod Settling
pub mod Standing
