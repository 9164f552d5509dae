mod WordLemmas
mod NumberLemmas
pub mod ReadingLemmas
pub mod LineLemmas
mod ChunkLemmas
pub mod InputLemmas
