use Rattle.std.proofs.Common.{subst}
use Rattle.scoop_replay.specs.Node.{BeganSo, GoesOn, node_value}
use Rattle.scoop_replay.proofs.Nodes.{began_on}
use Rattle.scoop_replay.proofs.node.NodeReplay.begin.Goals as goal

pub returns-clause-goes : goal.returns-clause-goes
returns-clause-goes c =
    let number = c.self.inside.number in
    let ks = c.begin-left.new.locals.items in
    subst (λ v. GoesOn (BeganSo c.args.handler) v (node_value number ks c.add.new.trail) c.args.post.now c.add.new.post) c.self.view_is
    (began_on number c.self.inside.locals.items ks c.self.inside.trail c.add.new.trail c.args.post.now c.add.new.post c.args.handler c.begin-left.result
    c.begin-left.ensures.moves c.in_ok-add.ensures.adds)
