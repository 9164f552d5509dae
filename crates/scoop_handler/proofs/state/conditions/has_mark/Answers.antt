use Rattle.std.proofs.Common.{◌+◌, sym, ◌∙◌, arith}
use Rattle.scoop_handler.proofs.QueuePlaces.{mark-at, pending-limit}
use Rattle.scoop_handler.proofs.state.conditions.has_mark.Goals as goal

pub overflow_add-from : goal.overflow_add-from
overflow_add-from g c =
    let few = pending-limit c.in-Some.head.block c.args.queues.now c.list_len-list.ensures.queues in
    omega (arith, few, c.pending_len-pending.ensures, c.from.ensures)

pub returns-in-Some-find_mark : goal.returns-in-Some-find_mark
returns-in-Some-find_mark g c =
    mark-at c.args.marks.now c.args.queues.now c.args.i c.in-Some.head c.in-Some-find_mark.mark
    (c.from.result + c.pending_len-pending.result) c.fits_mark.result
    c.list_len-list.ensures.queues (sym c.head.ensures ∙ c.in-Some.is) (sym c.find_mark.ensures ∙ c.in-Some-find_mark.is)
    (omega (arith, c.from.ensures, c.pending_len-pending.ensures)) c.fits_mark.ensures
