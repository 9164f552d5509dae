use Rattle.std.proofs.Common.{◌≡◌, ◌<◌, ℕ, slice_get}
use Rattle.scoop_queue.specs.Kept.{queues_kept}
use Rattle.scoop_queue.proofs.copying.same_after.Given as goal

-- so far the same
abbrev pub invariant-loop-i : goal.invariant-loop-i
invariant-loop-i g l = (j : ℕ) → l.place < j → j < l.i → slice_get (queues_kept l.left.entries) j ≡ slice_get (queues_kept l.right.entries) j
