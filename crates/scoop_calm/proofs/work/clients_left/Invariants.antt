-- The sum of all items is the sum so far and what the items left add.
use Rattle.scoop_model.specs.World.{Party}
use Rattle.scoop_calm.specs.Left.{client_work}
use Rattle.scoop_calm.proofs.Sums.{Sums}
use Rattle.scoop_calm.proofs.work.clients_left.Given as goal

abbrev pub invariant-loop-place : goal.invariant-loop-place
invariant-loop-place g l = Sums (λ (p : Party). client_work p.client) l.world.parties l.sum l.place
