-- The states of the handlers so far.
use Rattle.std.proofs.Common.{◌≡◌, map, take}
use Rattle.scoop_world.specs.Kept.{stored_on}
use Rattle.scoop_world.proofs.parts.restarting.load_all.Given as goal

abbrev pub invariant-loop-site : goal.invariant-loop-site
invariant-loop-site g l = record {
  found : l.states.items ≡ map (stored_on l.node) (take l.site-index l.sites);
  same : l.keeper ≡ l.fn.keeper;
}
