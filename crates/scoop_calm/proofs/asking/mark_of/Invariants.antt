-- It is among those that are left.
use Rattle.std.proofs.Common.{◌≡◌, drop}
use Rattle.scoop_handler.specs.Marks.{mark_of}
use Rattle.scoop_calm.proofs.asking.mark_of.Given as goal

abbrev pub invariant-loop-place : goal.invariant-loop-place
invariant-loop-place g l = mark_of l.client (drop l.place l.state.marks) ≡ mark_of l.client l.state.marks
