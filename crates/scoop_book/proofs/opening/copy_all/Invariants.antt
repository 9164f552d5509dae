-- The handlers so far are copied.
use Rattle.std.proofs.Common.{◌≡◌, take}
use Rattle.scoop_book.proofs.opening.copy_all.Given as goal

abbrev pub invariant-loop-opening : goal.invariant-loop-opening
invariant-loop-opening g l = l.copies.items ≡ take l.opening-index l.openings
