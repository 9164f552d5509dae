-- No handler that was tested stands there.
use Rattle.std.proofs.Common.{◌≡◌, false, take}
use Rattle.std.specs.List.{list_any}
use Rattle.scoop_world.specs.Kept.{on_node}
use Rattle.scoop_world.proofs.parts.restarting.any_on.Given as goal

abbrev pub invariant-loop-site : goal.invariant-loop-site
invariant-loop-site g l = list_any (on_node l.node) (take l.site-index l.sites) ≡ false
