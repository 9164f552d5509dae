-- It is among those that are left.
use Rattle.std.proofs.Common.{◌≡◌, find, drop}
use Rattle.scoop_calm.specs.Standing.{gets_from}
use Rattle.scoop_calm.proofs.asking.first_ask.Given as goal

abbrev pub invariant-loop-standing : goal.invariant-loop-standing
invariant-loop-standing g l = find (gets_from l.client) (drop l.standing-index l.states) ≡ find (gets_from l.client) l.states
