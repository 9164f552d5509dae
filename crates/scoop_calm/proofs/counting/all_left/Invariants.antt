-- The sum of all items is the sum so far and what the items left add.
use Rattle.scoop_calm.specs.Capped.{standing_left}
use Rattle.scoop_calm.proofs.Sums.{Sums}
use Rattle.scoop_calm.proofs.counting.all_left.Given as goal

abbrev pub invariant-loop-standing : goal.invariant-loop-standing
invariant-loop-standing g l = Sums (standing_left l.world) l.states l.sum l.standing-index
