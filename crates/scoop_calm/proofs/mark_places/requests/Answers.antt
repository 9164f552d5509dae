use Rattle.std.proofs.Common.{arith}
use Rattle.scoop_keeper.proofs.Keyed.{item_at}
use Rattle.scoop_calm.proofs.Sums.{next_request, few_requests}
use Rattle.scoop_calm.proofs.mark_places.requests.Goals as goal

pub overflow_add-count : goal.overflow_add-count
overflow_add-count c =
    let es = c.args.entries.now in
    let i = c.loop-entry.entry-index in
    let at = item_at es i c.entry-item.result (omega arith) c.entry-item.is in
    let next = next_request es i c.entry-item.result at in
    let few = few_requests es in
    omega (arith, next, few, c.loop-entry.invariant, c.one_unless_end-count.ensures)
