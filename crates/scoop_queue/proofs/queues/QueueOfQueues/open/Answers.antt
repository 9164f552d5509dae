use Rattle.std.proofs.Common.{subst, sym}
use Rattle.scoop_queue.specs.Kept.{queues_kept}
use Rattle.scoop_queue.specs.Sound.{IsQueues}
use Rattle.scoop_queue.proofs.Keeping.{IsQueues-opened}
use Rattle.scoop_queue.proofs.Results.{kept-or}
use Rattle.scoop_queue.proofs.queues.QueueOfQueues.open.Goals as goal

pub invariant_of-self : goal.invariant_of-self
invariant_of-self g c =
    let was = queues_kept c.self.inside.table.entries in
    kept-or c.open.result c.open.ensures.fits c.open.ensures.opened c.open.ensures.same
    (λ fits is. subst IsQueues (sym is) (IsQueues-opened c.args.block was c.self.invariant fits))
    (λ same. subst IsQueues (sym same) c.self.invariant)
