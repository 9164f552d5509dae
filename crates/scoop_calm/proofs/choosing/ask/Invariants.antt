-- It is what those that are left ask for.
use Rattle.std.proofs.Common.{◌≡◌, drop}
use Rattle.scoop_calm.specs.Next.{next_ask}
use Rattle.scoop_calm.proofs.choosing.ask.Given as goal

abbrev pub invariant-loop-place : goal.invariant-loop-place
invariant-loop-place g l = next_ask l.world.sites (drop l.place l.world.parties) ≡ next_ask l.world.sites l.world.parties
