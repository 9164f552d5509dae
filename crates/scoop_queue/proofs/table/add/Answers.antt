use Rattle.std.proofs.Common.{◌≡◌, ◌++◌, [], ◌∷◌, false, subst, sym, ap, ◌∙◌}
use Rattle.scoop_message.specs.declared.name.Block.{Block}
use Rattle.scoop_queue.specs.Queue.{has_queue}
use Rattle.scoop_queue.specs.Kept.{block_of, queue_at, queues_kept}
use Rattle.scoop_queue.proofs.Kept.{kept-insert}
use Rattle.scoop_queue.proofs.table.add.Goals as goal

pub returns-clause-ok : goal.returns-clause-ok
returns-clause-ok g c =
    let es = c.args.table.now.entries in
    let none : has_queue (block_of c.of.result) (queues_kept es) ≡ false =
    subst (λ (b : Block). has_queue b (queues_kept es) ≡ false) (sym c.of.ensures) c.requires in
    let last = kept-insert c.of.result c.args.pending es none ∙ ap (λ (b : Block). queues_kept es ++ queue_at b c.args.pending ∷ []) c.of.ensures in
    rw (c.in_ok-insert.ensures.entries) last
