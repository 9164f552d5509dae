-- The states of the handlers so far.
use Rattle.std.proofs.Common.{◌≡◌, map, take}
use Rattle.scoop_world.specs.Standing.{standing}
use Rattle.scoop_world.proofs.parts.states_of.Given as goal

abbrev pub invariant-loop-site : goal.invariant-loop-site
invariant-loop-site g l = l.states.items ≡ map standing (take l.site-index l.sites)
