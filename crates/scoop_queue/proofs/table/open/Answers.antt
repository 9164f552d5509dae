use Rattle.std.proofs.Common.{◌++◌, ◌∷◌, [], ap, ◌∙◌}
use Rattle.scoop_queue.specs.Queue.{PrivateQueue}
use Rattle.scoop_queue.specs.Kept.{queues_kept}
use Rattle.scoop_queue.proofs.table.open.Goals as goal

pub returns-clause-opened : goal.returns-clause-opened
returns-clause-opened g c =
    c.in_ok-add.ensures.ok ∙ ap (λ (q : PrivateQueue). queues_kept c.args.table.now.entries ++ q ∷ []) (c.new-pending.ensures c.args.block)
