-- The handlers so far have opened as they stood.
use Rattle.std.proofs.Common.{take}
use Rattle.scoop_book.specs.Reopening.{AllOpenAgain}
use Rattle.scoop_book.proofs.standing.first_other.Given as goal

abbrev pub invariant-loop-i : goal.invariant-loop-i
invariant-loop-i g l = AllOpenAgain (take l.i l.stood) (take l.i l.opened)
