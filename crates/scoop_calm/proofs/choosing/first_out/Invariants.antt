-- It is among those that are left.
use Rattle.std.proofs.Common.{◌≡◌, find, drop}
use Rattle.scoop_world.specs.Standing.{Standing}
use Rattle.scoop_calm.proofs.choosing.first_out.Given as goal

abbrev pub invariant-loop-standing : goal.invariant-loop-standing
invariant-loop-standing g l = find (λ (s : Standing). s.is_out) (drop l.standing-index l.states) ≡ find (λ (s : Standing). s.is_out) l.states
