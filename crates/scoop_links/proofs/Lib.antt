mod News
pub mod Writing
