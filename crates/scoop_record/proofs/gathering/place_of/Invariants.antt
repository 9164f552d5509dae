-- It is among those that are left.
use Rattle.std.proofs.Common.{◌≡◌, find, drop}
use Rattle.scoop_record.specs.Gathering.{is_of}
use Rattle.scoop_record.proofs.gathering.place_of.Given as goal

abbrev pub invariant-loop-i : goal.invariant-loop-i
invariant-loop-i l = find (is_of l.handler) (drop l.i l.states) ≡ find (is_of l.handler) l.states
