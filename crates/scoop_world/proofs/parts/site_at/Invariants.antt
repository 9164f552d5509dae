-- It is among those that are left.
use Rattle.std.proofs.Common.{◌≡◌, find, drop}
use Rattle.scoop_model.specs.World.{is_site}
use Rattle.scoop_world.proofs.parts.site_at.Given as goal

abbrev pub invariant-loop-i : goal.invariant-loop-i
invariant-loop-i g l = find (is_site l.handler) (drop l.i l.sites) ≡ find (is_site l.handler) l.sites
