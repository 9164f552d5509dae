use Rattle.std.proofs.Common.{subst, sym}
use Rattle.scoop_queue.specs.Kept.{queues_kept}
use Rattle.scoop_queue.specs.Sound.{IsQueues}
use Rattle.scoop_queue.proofs.Keeping.{IsQueues-cut}
use Rattle.scoop_queue.proofs.queues.QueueOfQueues.cut.Goals as goal

pub invariant_of-self : goal.invariant_of-self
invariant_of-self g c = subst IsQueues (sym c.cut.ensures.cut) (IsQueues-cut c.args.block (queues_kept c.self.inside.table.entries) c.self.invariant)
