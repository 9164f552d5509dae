-- It is among those that are left.
use Rattle.std.proofs.Common.{◌≡◌, find, drop}
use Rattle.scoop_calm.specs.Standing.{can_leave}
use Rattle.scoop_calm.proofs.choosing.first_to_begin.Given as goal

abbrev pub invariant-loop-standing : goal.invariant-loop-standing
invariant-loop-standing g l = find can_leave (drop l.standing-index l.states) ≡ find can_leave l.states
