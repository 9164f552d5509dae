use Rattle.std.proofs.Common.{◌≡◌, take, drop}
use Rattle.scoop_reserve.specs.Handlers.{first_repeated, first_repeated_after}
use Rattle.scoop_reserve.proofs.handlers.first_repeated.Given as goal

abbrev pub invariant-loop-i : goal.invariant-loop-i
invariant-loop-i l = first_repeated_after (take l.i l.handlers) (drop l.i l.handlers) ≡ first_repeated l.handlers
