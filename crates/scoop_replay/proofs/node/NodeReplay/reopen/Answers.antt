use Rattle.std.proofs.Common.{map, ap, ◌∙◌, subst}
use Rattle.scoop_weave.specs.NodeHistories.{reopened}
use Rattle.scoop_replay.specs.Node.{OpensAgain, node_value}
use Rattle.scoop_replay.proofs.Nodes.{opens_again}
use Rattle.scoop_replay.proofs.node.NodeReplay.reopen.Goals as goal

pub returns-clause-opens : goal.returns-clause-opens
returns-clause-opens c =
    let number = c.self.inside.number in
    let ks = c.in-Ok.locals.items in
    subst (λ v. OpensAgain v (node_value number ks c.add.new.trail) c.args.post.now c.add.new.post) c.self.view_is
    (opens_again number c.self.inside.locals.items ks c.self.inside.trail c.add.new.trail c.args.post.now c.add.new.post
    (λ words. c.in-Ok.ensures.again words ∙ ap (map (reopened words)) c.deref.ensures.value)
    c.in_ok-add.ensures.adds)
