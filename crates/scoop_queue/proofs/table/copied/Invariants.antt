use Rattle.std.proofs.Common.{◌≡◌, ◌++◌}
use Rattle.scoop_queue.specs.Kept.{queues_kept}
use Rattle.scoop_queue.proofs.table.copied.Given as goal

-- the copied queues and those that are left are all
abbrev pub invariant-loop-key : goal.invariant-loop-key
invariant-loop-key g l =
    (goal.iterator-loop-key g).can_next l.key-iterator
    × (goal.iterator-loop-key g).is_finite l.key-iterator
    × (queues_kept l.copy.entries ++ queues_kept l.key-iterator ≡ queues_kept l.table.entries)
