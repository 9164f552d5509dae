-- The sum of all items is the sum so far and what the items left add.
use Rattle.scoop_calm.specs.Left.{queue_work}
use Rattle.scoop_calm.proofs.Sums.{Sums}
use Rattle.scoop_calm.proofs.counting.pending.Given as goal

abbrev pub invariant-loop-place : goal.invariant-loop-place
invariant-loop-place g l = Sums queue_work l.queues l.sum l.place
