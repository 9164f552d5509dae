-- Entries that stand in a log, from a number on.
use Rattle.scoop_model.proofs.Names.{◌≡◌, ℕ, ◌+◌, List, ◌++◌, length, Entry}

pub record Stands (log : List Entry) (n : ℕ) (es : List Entry) : Type 0 where
  pub before : List Entry
  pub behind : List Entry
  pub all : before ++ es ++ behind ≡ log
  pub number : n ≡ length before + 1
