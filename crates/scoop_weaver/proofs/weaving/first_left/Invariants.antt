-- None of the parties so far has moves left.
use Rattle.std.proofs.Common.{◌<◌, ◌≤◌, ℕ}
use Rattle.std.specs.Prelude.{slice_index}
use Rattle.scoop_weaver.specs.Weaving.{party_len}
use Rattle.scoop_weaver.proofs.weaving.first_left.Given as goal

abbrev pub invariant-loop-party : goal.invariant-loop-party
invariant-loop-party g l = (p : ℕ) → p < l.party → party_len l.parties p ≤ slice_index l.places p
