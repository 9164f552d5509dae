pub mod WaitsForTwo
