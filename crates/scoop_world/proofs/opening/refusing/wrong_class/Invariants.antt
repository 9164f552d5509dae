-- The objects so far are of their classes.
use Rattle.std.proofs.Common.{take}
use Rattle.std.specs.List.{AllByRecursion}
use Rattle.scoop_world.specs.OpenRefusal.{IsOfClass}
use Rattle.scoop_world.proofs.opening.refusing.wrong_class.Given as goal

abbrev pub invariant-loop-placement : goal.invariant-loop-placement
invariant-loop-placement g l = AllByRecursion (IsOfClass g.B.Behaviour.class) (take l.placement-index l.placements)
