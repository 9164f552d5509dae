-- The node has gone on so far.
use Rattle.scoop_runtime.specs.NodeLives.{GoesOn}
use Rattle.scoop_runtime.proofs.node.serve_on.Given as goal

abbrev pub invariant-loop : goal.invariant-loop
invariant-loop g l = GoesOn g.K.Keeper.handlers g.K.Keeper.is_honest l.fn.resting.stood l.fn.resting.keeper l.resting.stood l.resting.keeper
