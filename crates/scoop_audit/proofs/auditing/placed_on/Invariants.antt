-- The handlers so far that stand on the node are placed, each with its class.
use Rattle.std.proofs.Common.{◌≡◌, map}
use Rattle.scoop_audit.proofs.Steps.{numbers_so_far, placed_so_far}
use Rattle.scoop_audit.proofs.auditing.placed_on.Given as goal

abbrev pub invariant-loop-place : goal.invariant-loop-place
invariant-loop-place l =
    (l.placed.items ≡ placed_so_far l.system.classes l.number l.handlers l.place-index)
    × (map (λ p. p.handler) l.placed.items ≡ numbers_so_far l.number l.handlers l.place-index)
