use Rattle.std.proofs.Common.{arith, ◌∙◌}
use Rattle.scoop_calm.specs.Left.{queue_work}
use Rattle.scoop_calm.proofs.Sums.{one_more, all_summed, head_pending, small_is}
use Rattle.scoop_calm.proofs.counting.pending.Goals as goal

pub loop-place-preserved : goal.loop-place-preserved
loop-place-preserved g c =
    let qs = c.args.queues.now in
    let i = c.loop-place.place in
    let q = head_pending qs i c.in-Some.head c.list_len-place-end.ensures.queues.apart (c.in-Some.ensures) in
    let is = small_is _ (queue_work q.queue) c.pending_len.type_inv (c.pending_len.ensures ∙ q.pending) in
    one_more queue_work qs c.loop-place.sum i q.queue _ _ q.at is c.saturating_add-sum.ensures c.loop-place.invariant

pub returns : goal.returns
returns g c = all_summed queue_work c.args.queues.now c.loop-place.sum c.loop-place.place (omega arith) c.loop-place.invariant
