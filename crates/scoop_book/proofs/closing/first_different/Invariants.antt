-- The passes so far agree.
use Rattle.std.proofs.Common.{take}
use Rattle.std.specs.Prelude.{All}
use Rattle.scoop_book.specs.Closing.{Agrees}
use Rattle.scoop_book.proofs.closing.first_different.Given as goal

abbrev pub invariant-loop-pass : goal.invariant-loop-pass
invariant-loop-pass g l = All (Agrees l.opening l.history.entries) (take l.pass-index l.passes)
