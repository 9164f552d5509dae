use Rattle.std.proofs.Common.{add-one}
use Rattle.scoop_queue.specs.Kept.{queues_kept}
use Rattle.scoop_queue.proofs.Lookup.{take-next}
use Rattle.scoop_queue.proofs.table.same.Goals as goal

pub loop-i-preserved : goal.loop-i-preserved
loop-i-preserved g c =
    rw add-one (take-next (queues_kept c.args.left.now.entries) (queues_kept c.args.right.now.entries) c.loop-i.i c.loop-i.invariant
    (c.same_at.ensures.0 c.if-not-same_at.false))
