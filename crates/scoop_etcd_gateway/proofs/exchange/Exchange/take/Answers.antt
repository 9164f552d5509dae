use Rattle.std.proofs.Common.{refl}
use Rattle.scoop_etcd_gateway.specs.Reading.{stays, goes}
use Rattle.scoop_etcd_gateway.proofs.exchange.Exchange.take.Goals as goal

pub loop-init : goal.loop-init
loop-init c = (record { unread = c.in_ok-extend_from_slice.ensures.ok; client = refl; status = refl; body = refl }, stays)

pub returns-in-NeedMore : goal.returns-in-NeedMore
returns-in-NeedMore c =
    let last = rw c.in-NeedMore.is at c.in_ok-step.ensures in
    (_, c.loop.self, c.loop.invariant.0, c.loop.invariant.1, last)

pub returns-in-Whole : goal.returns-in-Whole
returns-in-Whole c =
    let last = rw c.in-Whole.is at c.in_ok-step.ensures in
    (_, c.loop.self, c.loop.invariant.0, c.loop.invariant.1, last)

pub loop-preserved : goal.loop-preserved
loop-preserved c =
    let next = rw c.in-Again.is at c.in_ok-step.ensures in
    (c.loop.invariant.0, goes c.loop.self c.step.new.self c.loop.invariant.1 next)
