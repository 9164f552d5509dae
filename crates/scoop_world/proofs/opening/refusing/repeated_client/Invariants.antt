-- The clients so far are apart.
use Rattle.std.proofs.Common.{take}
use Rattle.scoop_message.specs.Lists.{NoRepeats}
use Rattle.scoop_world.specs.OpenRefusal.{clients_of}
use Rattle.scoop_world.proofs.opening.refusing.repeated_client.Given as goal

abbrev pub invariant-loop-i : goal.invariant-loop-i
invariant-loop-i l = NoRepeats (clients_of (take l.i l.clients))
