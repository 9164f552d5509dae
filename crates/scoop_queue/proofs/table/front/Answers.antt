use Rattle.std.proofs.Common.{sym, ◌∙◌}
use Rattle.scoop_queue.specs.Kept.{block_of, queue_at}
use Rattle.scoop_queue.proofs.Kept.{front-at, first-none, first-some}
use Rattle.scoop_queue.proofs.table.front.Goals as goal

pub returns-in_err-entry : goal.returns-in_err-entry
returns-in_err-entry g c =
    let k = c.in_ok-key.key.now in
    let p = c.in_ok-key.pending.now in
    let none = front-at c.args.table.now.entries k p (sym c.in_ok-key.ensures.entry)
    ∙ first-none (queue_at (block_of k) p) p.entries.items c.in_err-entry.ensures.item.3 in
    cc

pub returns : goal.returns
returns g c =
    let k = c.in_ok-key.key.now in
    let p = c.in_ok-key.pending.now in
    let some = front-at c.args.table.now.entries k p (sym c.in_ok-key.ensures.entry)
    ∙ first-some (queue_at (block_of k) p) p.entries.items c.in_ok-entry.entry.now c.in_ok-entry.ensures.item.3.0 c.in_ok-entry.ensures.lookup in
    rw (c.block.ensures) (sym some)
