-- The requests so far and those that are left are all.
use Rattle.std.proofs.Common.{◌≡◌, ◌+◌, drop}
use Rattle.scoop_calm.proofs.Sums.{requests}
use Rattle.scoop_calm.proofs.mark_places.requests.Given as goal

abbrev pub invariant-loop-entry : goal.invariant-loop-entry
invariant-loop-entry l = l.count + requests (drop l.entry-index l.entries) ≡ requests l.entries
