use Rattle.scoop_reserve.proofs.Ordering.{keeps_order}
use Rattle.scoop_reserve.proofs.reservation.Reservation.start.Goals as goal

pub returns-clause-order : goal.returns-clause-order
returns-clause-order c = rw c.of-handlers.ensures (keeps_order c.args.block c.args.handlers.now)
