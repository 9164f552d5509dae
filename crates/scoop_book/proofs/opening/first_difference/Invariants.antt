-- The handlers so far are the same.
use Rattle.std.proofs.Common.{◌≡◌, take}
use Rattle.scoop_book.proofs.opening.first_difference.Given as goal

abbrev pub invariant-loop-i : goal.invariant-loop-i
invariant-loop-i g l = take l.i l.left ≡ take l.i l.right
