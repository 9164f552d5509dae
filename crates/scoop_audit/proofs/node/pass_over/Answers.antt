use Rattle.std.proofs.Common.{subst}
use Rattle.scoop_audit.specs.Node.{PassesOver}
use Rattle.scoop_audit.proofs.Nodes.{passes_left, passes_more}
use Rattle.scoop_audit.proofs.node.pass_over.Goals as goal

pub loop-preserved : goal.loop-preserved
loop-preserved c =
    let old = c.args.cursor.now.rest.now in
    let new = c.next.new.self.rest.now in
    let more : PassesOver old new =
    passes_more old new c.in-Ok-Some.line (c.is_entry.ensures c.if-not-is_entry.false)
    (subst (PassesOver old) (rw c.in-Ok-Some.field-0-is at c.in-Ok-Some.ensures.next) c.loop.invariant.0) in (
      more,
      passes_left old new more,
    )
