use Rattle.std.proofs.Common.{arith}
use Rattle.scoop_handler.proofs.QueuePlaces.{pending-limit}
use Rattle.scoop_handler.proofs.state.HandlerState.has_no_room.Goals as goal

pub overflow_add-result : goal.overflow_add-result
overflow_add-result g c =
    let few = pending-limit c.args.block c.self.inside.queues c.self.invariant.queues in
    let counted = c.pending_len.ensures in
    omega (arith, few, counted, c.requires)
