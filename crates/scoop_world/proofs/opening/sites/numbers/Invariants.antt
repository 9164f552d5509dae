-- The numbers of the handlers so far.
use Rattle.std.proofs.Common.{◌≡◌, map, take}
use Rattle.scoop_world.proofs.opening.sites.numbers.Given as goal

abbrev pub invariant-loop-placement : goal.invariant-loop-placement
invariant-loop-placement g l = l.handlers.items ≡ map (λ p. p.handler) (take l.placement-index l.placements)
