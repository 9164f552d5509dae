use Rattle.std.proofs.Common.{◌≡◌, take}
use Rattle.scoop_queue.specs.Kept.{queues_kept}
use Rattle.scoop_queue.proofs.copying.first_change.Given as goal

abbrev pub invariant-loop-i : goal.invariant-loop-i
invariant-loop-i g l = take l.i (queues_kept l.left.entries) ≡ take l.i (queues_kept l.right.entries)
