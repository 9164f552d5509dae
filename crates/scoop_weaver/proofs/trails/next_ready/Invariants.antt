-- None of the parties so far is ready.
use Rattle.std.proofs.Common.{◌<◌, ℕ}
use Rattle.scoop_weaver.specs.Trails.{IsReadyBy, step_at}
use Rattle.scoop_weaver.proofs.trails.next_ready.Given as goal

abbrev pub invariant-loop-party : goal.invariant-loop-party
invariant-loop-party g l = (p : ℕ) → p < l.party → IsReadyBy l.sent (step_at l.trails l.places p) → ⊥
