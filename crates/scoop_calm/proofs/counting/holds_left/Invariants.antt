-- The sum of all items is the sum so far and what the items left add.
use Rattle.scoop_calm.specs.Bound.{hold_left}
use Rattle.scoop_calm.proofs.Sums.{Sums}
use Rattle.scoop_calm.proofs.counting.holds_left.Given as goal

abbrev pub invariant-loop-place : goal.invariant-loop-place
invariant-loop-place g l = Sums hold_left l.state.marks l.sum l.place
