-- The sum of all items is the sum so far and what the items left add.
use Rattle.scoop_calm.specs.Bound.{places_left}
use Rattle.scoop_calm.proofs.Sums.{Sums}
use Rattle.scoop_calm.proofs.mark_places.places_left.Given as goal

abbrev pub invariant-loop-place : goal.invariant-loop-place
invariant-loop-place g l = Sums (places_left l.world.logs l.state) l.world.parties l.sum l.place
