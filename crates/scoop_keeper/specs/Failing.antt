-- A keeper that fails after some calls.
use Rattle.std.specs.Prelude.{ℕ}

-- the keeper under it, and how many calls it still passes on
pub record FailingRecord (K : Type 0) : Type 0 where
  pub keeper : K
  pub left : ℕ

abbrev pub failing : {K : Type 0} → K → ℕ → FailingRecord K
failing keeper left = record { keeper = keeper; left = left }
