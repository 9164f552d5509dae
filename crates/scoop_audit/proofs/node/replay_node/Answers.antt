use Rattle.std.proofs.Common.{sym, subst}
use Rattle.scoop_weaver.proofs.Along.{grows_same}
use Rattle.scoop_audit.specs.Node.{NodeUpTo}
use Rattle.scoop_audit.proofs.Nodes.{node_nothing}
use Rattle.scoop_audit.proofs.node.replay_node.Goals as goal

pub loop-text-init : goal.loop-text-init
loop-text-init c = (
  grows_same _,
  subst (λ r. NodeUpTo c.args.bytes.now r c.args.node.now c.args.node.now c.args.post.now c.args.post.now) (sym c.new-cursor.ensures)
      (node_nothing c.args.bytes.now c.args.node.now c.args.post.now),
)
