-- It is among those that are left.
use Rattle.std.proofs.Common.{◌≡◌, find, drop}
use Rattle.scoop_calm.specs.Next.{can_end}
use Rattle.scoop_calm.proofs.choosing.end.Given as goal

abbrev pub invariant-loop-place : goal.invariant-loop-place
invariant-loop-place g l = find can_end (drop l.place l.world.parties) ≡ find can_end l.world.parties
