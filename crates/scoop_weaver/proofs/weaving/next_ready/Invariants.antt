-- None of the parties so far is ready.
use Rattle.std.proofs.Common.{◌<◌, ℕ}
use Rattle.scoop_weaver.specs.Weaving.{IsReady, next_at}
use Rattle.scoop_weaver.proofs.weaving.next_ready.Given as goal

abbrev pub invariant-loop-party : goal.invariant-loop-party
invariant-loop-party g l = (p : ℕ) → p < l.party → IsReady l.sent (next_at l.parties l.places p) → ⊥
