use Rattle.std.proofs.Common.{subst, sym}
use Rattle.scoop_queue.specs.Kept.{queues_kept}
use Rattle.scoop_queue.specs.Refusal.{HasNumbersFor}
use Rattle.scoop_queue.specs.Sound.{IsQueues}
use Rattle.scoop_queue.proofs.Keeping.{IsQueues-put_all}
use Rattle.scoop_queue.proofs.Results.{kept-or}
use Rattle.scoop_queue.proofs.queues.QueueOfQueues.put_all.Goals as goal

pub invariant_of-self : goal.invariant_of-self
invariant_of-self g c =
    let was = queues_kept c.self.inside.table.entries in
    let numbers : HasNumbersFor c.args.block c.args.entries.now was =
    subst (HasNumbersFor c.args.block c.args.entries.now) (sym c.self.view_is) c.requires.numbers in
    kept-or c.put_all.result c.put_all.ensures.fits c.put_all.ensures.put c.put_all.ensures.same
    (λ fits is. subst IsQueues (sym is) (IsQueues-put_all c.args.block c.args.entries.now was c.self.invariant c.requires.some c.requires.end numbers fits))
    (λ same. subst IsQueues (sym same) c.self.invariant)
