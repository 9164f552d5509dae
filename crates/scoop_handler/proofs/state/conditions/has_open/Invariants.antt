use Rattle.std.proofs.Common.{◌≡◌, None, take}
use Rattle.scoop_queue.specs.Queue.{queue_of}
use Rattle.scoop_handler.proofs.state.conditions.has_open.Given as goal

abbrev pub invariant-loop-i : goal.invariant-loop-i
invariant-loop-i g l = queue_of l.block (take l.i l.queues) ≡ None
