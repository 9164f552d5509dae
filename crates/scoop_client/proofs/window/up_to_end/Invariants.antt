use Rattle.std.proofs.Common.{◌≡◌, ◌++◌, take, drop}
use Rattle.scoop_client.specs.Window.{up_to_end}
use Rattle.scoop_client.proofs.window.up_to_end.Given as goal

abbrev pub invariant-loop-i : goal.invariant-loop-i
invariant-loop-i l = take l.i l.entries ++ up_to_end (drop l.i l.entries) ≡ up_to_end l.entries
