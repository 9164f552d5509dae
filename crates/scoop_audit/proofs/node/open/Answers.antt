use Rattle.std.proofs.Common.{subst, arith}
use Rattle.scoop_audit.proofs.Nodes.{OpenedTo, opened_more}
use Rattle.scoop_audit.proofs.node.open.Goals as goal

pub loop-place-preserved : goal.loop-place-preserved
loop-place-preserved c =
    let bytes = c.args.cursor.now.rest.now in
    let ls = c.args.node.now.handlers in
    let n = c.loop-place.place in
    opened_more bytes c.next.new.self.rest.now ls n c.in-Ok-Some.line (omega (arith, c.loop-place-test.true, c.count-place-end.ensures))
    (subst (λ r. OpenedTo bytes r ls n) (rw c.in-Ok-Some.field-0-is at c.in-Ok-Some.ensures.next) c.loop-place.invariant) c.in-Ok.ensures.opens
