pub mod Window
pub mod State
pub mod Due
pub mod Hearing
pub mod Beginning
pub mod Commands
pub mod Laws
pub mod Rows
