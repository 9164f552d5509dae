-- The numbers so far are there.
use Rattle.std.proofs.Common.{◌≡◌, ◌<◌, ℕ}
use Rattle.std.specs.Prelude.{Any}
use Rattle.scoop_book.proofs.closing.first_missing.Given as goal

abbrev pub invariant-loop-number : goal.invariant-loop-number
invariant-loop-number g l = (n : ℕ) → n < l.number → Any (λ p. p.number ≡ n) l.passes
