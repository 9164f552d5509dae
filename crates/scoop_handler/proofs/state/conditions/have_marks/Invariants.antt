use Rattle.std.proofs.Common.{take}
use Rattle.std.specs.List.{AllByRecursion}
use Rattle.scoop_handler.specs.State.{HasMark}
use Rattle.scoop_handler.proofs.state.conditions.have_marks.Given as goal

abbrev pub invariant-loop-i : goal.invariant-loop-i
invariant-loop-i g l = AllByRecursion (HasMark l.marks) (take l.i l.queues)
