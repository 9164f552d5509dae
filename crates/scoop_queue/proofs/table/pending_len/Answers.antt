use Rattle.std.proofs.Common.{sym, ◌∙◌}
use Rattle.scoop_queue.proofs.Kept.{pending-place}
use Rattle.scoop_queue.proofs.table.pending_len.Goals as goal

pub returns-in-Some : goal.returns-in-Some
returns-in-Some g c =
    c.len.ensures ∙ sym (pending-place c.args.block c.index.result.now c.args.table.now.entries c.in-Some.place c.in-Some.ensures.place c.index.ensures)
