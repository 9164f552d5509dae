-- The events so far lead to the world.
use Rattle.std.proofs.Common.{take}
use Rattle.scoop_model.specs.Reach.{Leads, IsReached}
use Rattle.scoop_world.proofs.world.World.run.Given as goal

abbrev pub invariant-loop-taken : goal.invariant-loop-taken
invariant-loop-taken g l = Leads l.fn.self (take l.taken l.events) l.self × IsReached l.self
