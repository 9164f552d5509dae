-- The passes so far are there.
use Rattle.std.proofs.Common.{◌≡◌, ◌<◌, ℕ, Some, length}
use Rattle.std.specs.Prelude.{slice_get}
use Rattle.scoop_book.specs.Passes.{fresh_pass}
use Rattle.scoop_book.proofs.pass.fresh_passes.Given as goal

abbrev pub invariant-loop-number : goal.invariant-loop-number
invariant-loop-number g l = record {
  count : length l.passes.items ≡ l.number;
  fresh : (n : ℕ) → n < l.number → slice_get l.passes.items n ≡ Some (fresh_pass l.opening n);
}
