-- The pass has the history's events just where what is left of it has those that are left.
use Rattle.std.proofs.Common.{◌≡◌, length, map}
use Rattle.std.specs.Prelude.{◌↔◌}
use Rattle.scoop_book.specs.Moves.{made_by, moved}
use Rattle.scoop_book.proofs.closing.has_events.Given as goal

abbrev pub invariant-loop-of : goal.invariant-loop-of
invariant-loop-of g l =
    (l.pass.events ≡ made_by l.pass.number l.history.entries) ↔ (map moved l.left ≡ made_by l.pass.number l.entries)

abbrev pub decreases-loop-of : goal.decreases-loop-of
decreases-loop-of g l = length l.entries
