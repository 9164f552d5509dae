-- The traffic of the entries so far is noted.
use Rattle.std.proofs.Common.{◌≡◌, map, take}
use Rattle.scoop_weaver.specs.Passing.{traffic_in}
use Rattle.scoop_weaver.proofs.traffic.Party.of_node.Given as goal

abbrev pub invariant-loop-entry : goal.invariant-loop-entry
invariant-loop-entry g l = l.moves.items ≡ map traffic_in (take l.entry-index l.history)
