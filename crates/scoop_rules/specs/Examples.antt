pub mod OneCell
pub mod ThreeClients
pub mod CutShort
pub mod NodeRestarts
