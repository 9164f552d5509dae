-- The objects so far are of their classes.
use Rattle.std.proofs.Common.{take}
use Rattle.std.specs.List.{AllByRecursion}
use Rattle.scoop_book.specs.Opening.{IsOfClass}
use Rattle.scoop_book.proofs.opening.wrong_class.Given as goal

abbrev pub invariant-loop-handed : goal.invariant-loop-handed
invariant-loop-handed g l = AllByRecursion (IsOfClass g.B.Behaviour.class) (take l.handed-index l.handlers)
