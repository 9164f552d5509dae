-- The objects of the members so far.
use Rattle.std.proofs.Common.{take}
use Rattle.std.specs.List.{AllZip}
use Rattle.scoop_runtime.specs.NodeLives.{IsMemberObject}
use Rattle.scoop_runtime.proofs.plan.NodePlan.handed.Given as goal

abbrev pub invariant-loop-member : goal.invariant-loop-member
invariant-loop-member g l = AllZip (IsMemberObject g.O.Object.Behaviour.words) (take l.member-index l.self.members.items) l.handlers.items
