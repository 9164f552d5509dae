-- The keeper has the states of the handlers so far, and its incarnations stay.
use Rattle.std.proofs.Common.{◌≡◌, take}
use Rattle.std.specs.List.{AllByRecursion}
use Rattle.scoop_world.specs.Kept.{HasState}
use Rattle.scoop_world.proofs.opening.sites.store_all.Given as goal

abbrev pub invariant-loop-site : goal.invariant-loop-site
invariant-loop-site g l = record {
  states : AllByRecursion (HasState l.keeper) (take l.site-index l.sites);
  incarnations : l.keeper.incarnations ≡ l.fn.keeper.incarnations;
}
