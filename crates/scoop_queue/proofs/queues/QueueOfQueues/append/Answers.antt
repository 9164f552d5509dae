use Rattle.std.proofs.Common.{subst, sym}
use Rattle.scoop_queue.specs.Kept.{queues_kept}
use Rattle.scoop_queue.specs.Sound.{IsQueues}
use Rattle.scoop_queue.proofs.Keeping.{IsQueues-appended}
use Rattle.scoop_queue.proofs.Results.{kept-or}
use Rattle.scoop_queue.proofs.queues.QueueOfQueues.append.Goals as goal

pub invariant_of-self : goal.invariant_of-self
invariant_of-self g c =
    let was = queues_kept c.self.inside.table.entries in
    kept-or c.append.result c.append.ensures.fits c.append.ensures.appended c.append.ensures.same
    (λ fits is. subst IsQueues (sym is) (IsQueues-appended c.args.head c.args.entries.now was c.self.invariant fits))
    (λ same. subst IsQueues (sym same) c.self.invariant)
