use Rattle.std.proofs.Common.{arith}
use Rattle.scoop_queue.specs.Kept.{queues_kept}
use Rattle.scoop_queue.proofs.OneChange.{agree-but, same-but}
use Rattle.scoop_queue.proofs.copying.is_only_change.Goals as goal

pub returns : goal.returns
returns g c same =
    agree-but c.args.place (queues_kept c.args.left.now.entries) (queues_kept c.args.right.now.entries) (omega (arith, c.len.ensures, c.len-2.ensures))
    (c.same_block_at.ensures.there c.if-not-same_block_at.false) (λ q r. c.same_block_at.ensures.same q r c.if-not-same_block_at.false)
    (same-but c.args.place (queues_kept c.args.left.now.entries) (queues_kept c.args.right.now.entries) c.requires
    (λ j. c.same_after.ensures j same))
