-- The clients so far have joined.
use Rattle.scoop_world.proofs.Joins.{Joined}
use Rattle.scoop_world.proofs.opening.joining.join_all.Given as goal

abbrev pub invariant-loop-client : goal.invariant-loop-client
invariant-loop-client g l = Joined l.fn.handlers l.fn.keeper l.clients l.client-index l.parties.items l.keeper
