-- The handlers so far are placed, and have their objects' classes.
use Rattle.std.proofs.Common.{◌≡◌, map}
use Rattle.std.specs.List.{AllByRecursion}
use Rattle.scoop_model.specs.Step.{new_site}
use Rattle.scoop_model.specs.Opening.{IsPlaced}
use Rattle.scoop_world.specs.Placing.{placements_of}
use Rattle.scoop_world.proofs.opening.sites.place_all.Given as goal

abbrev pub invariant-loop-placement : goal.invariant-loop-placement
invariant-loop-placement g l = record {
  sites : l.sites.items ≡ map new_site (placements_of g.B.Behaviour.words l.yielded);
  placed : AllByRecursion IsPlaced (placements_of g.B.Behaviour.words l.yielded);
}
