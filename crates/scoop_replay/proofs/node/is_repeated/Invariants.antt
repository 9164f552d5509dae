-- The handlers so far are apart.
use Rattle.std.proofs.Common.{map, take}
use Rattle.scoop_message.specs.Lists.{NoRepeats}
use Rattle.scoop_handler.specs.Local.{number_in}
use Rattle.scoop_replay.proofs.node.is_repeated.Given as goal

abbrev pub invariant-loop-i : goal.invariant-loop-i
invariant-loop-i l = NoRepeats (map number_in (take l.i l.locals))
