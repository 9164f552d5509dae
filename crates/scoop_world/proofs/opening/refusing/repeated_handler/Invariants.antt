-- The handlers so far are apart.
use Rattle.std.proofs.Common.{take}
use Rattle.scoop_message.specs.Lists.{NoRepeats}
use Rattle.scoop_world.specs.OpenRefusal.{handlers_of}
use Rattle.scoop_world.proofs.opening.refusing.repeated_handler.Given as goal

abbrev pub invariant-loop-i : goal.invariant-loop-i
invariant-loop-i g l = NoRepeats (handlers_of (take l.i l.placements))
