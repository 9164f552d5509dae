-- It is among those that are left.
use Rattle.std.proofs.Common.{◌≡◌, find, drop}
use Rattle.scoop_model.specs.World.{is_party}
use Rattle.scoop_world.proofs.parts.party_at.Given as goal

abbrev pub invariant-loop-i : goal.invariant-loop-i
invariant-loop-i g l = find (is_party l.client) (drop l.i l.parties) ≡ find (is_party l.client) l.parties
