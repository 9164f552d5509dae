-- The marks so far are shown.
use Rattle.std.proofs.Common.{◌≡◌, take, map}
use Rattle.scoop_status.specs.Shown.{mark_view}
use Rattle.scoop_status.proofs.gathering.marks_of.Given as goal

abbrev pub invariant-loop-place : goal.invariant-loop-place
invariant-loop-place l = l.views.items ≡ map mark_view (take l.place l.state.marks)
