-- The sum of all items is the sum so far and what the items left add.
use Rattle.scoop_calm.specs.Bound.{block_left}
use Rattle.scoop_calm.proofs.Sums.{Sums}
use Rattle.scoop_calm.proofs.mark_places.blocks_left.Given as goal

abbrev pub invariant-loop-place : goal.invariant-loop-place
invariant-loop-place g l = Sums (block_left l.handler l.mark) l.world.logs l.sum l.place
