-- None of the parties so far has moves left.
use Rattle.std.proofs.Common.{◌<◌, ◌≤◌, ℕ}
use Rattle.std.specs.Prelude.{slice_index}
use Rattle.scoop_weaver.specs.Trails.{trail_len}
use Rattle.scoop_weaver.proofs.trails.first_left.Given as goal

abbrev pub invariant-loop-party : goal.invariant-loop-party
invariant-loop-party g l = (p : ℕ) → p < l.party → trail_len l.trails p ≤ slice_index l.places p
