pub mod Escaped
pub mod Budget
pub mod Shown
