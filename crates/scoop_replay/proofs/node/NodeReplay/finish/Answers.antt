use Rattle.std.proofs.Common.{subst}
use Rattle.scoop_replay.specs.Node.{GoesOn, RanSo, node_value}
use Rattle.scoop_replay.proofs.Nodes.{ran_on}
use Rattle.scoop_replay.proofs.node.NodeReplay.finish.Goals as goal

pub returns-clause-goes : goal.returns-clause-goes
returns-clause-goes c =
    let number = c.self.inside.number in
    let ks = c.finish.new.locals.items in
    subst (λ v. GoesOn (RanSo c.args.handler) v (node_value number ks c.add.new.trail) c.args.post.now c.add.new.post) c.self.view_is
    (ran_on number c.self.inside.locals.items ks c.self.inside.trail c.add.new.trail c.args.post.now c.add.new.post c.args.handler c.in-Some-finish.ran
    c.in-Some-finish.ensures.moves c.in_ok-add.ensures.adds)
