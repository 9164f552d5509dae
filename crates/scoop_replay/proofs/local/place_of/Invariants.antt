-- It is among those that are left.
use Rattle.std.proofs.Common.{◌≡◌, find, drop}
use Rattle.scoop_book.specs.Moves.{is_handler}
use Rattle.scoop_replay.proofs.local.place_of.Given as goal

abbrev pub invariant-loop-i : goal.invariant-loop-i
invariant-loop-i l = find (is_handler l.handler) (drop l.i l.locals) ≡ find (is_handler l.handler) l.locals
