pub mod HistoryLemmas
mod PostLemmas
