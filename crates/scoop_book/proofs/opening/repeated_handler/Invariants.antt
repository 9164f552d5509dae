-- The handlers so far are apart.
use Rattle.std.proofs.Common.{take}
use Rattle.scoop_message.specs.Lists.{NoRepeats}
use Rattle.scoop_book.specs.Opening.{numbers_of}
use Rattle.scoop_book.proofs.opening.repeated_handler.Given as goal

abbrev pub invariant-loop-i : goal.invariant-loop-i
invariant-loop-i g l = NoRepeats (numbers_of (take l.i l.handlers))
