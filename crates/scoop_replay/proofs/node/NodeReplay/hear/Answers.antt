use Rattle.std.proofs.Common.{sym, subst}
use Rattle.scoop_message.specs.Lists.{NoRepeats}
use Rattle.scoop_replay.specs.Node.{GoesOn, HeardSo, node_value}
use Rattle.scoop_replay.proofs.Nodes.{heard_on}
use Rattle.scoop_replay.proofs.node.NodeReplay.hear.Goals as goal

pub returns-clause-goes : goal.returns-clause-goes
returns-clause-goes c =
    let number = c.self.inside.number in
    let ks = c.hear_so.new.locals.items in
    subst (λ v. GoesOn (HeardSo c.args.message.now c.args.reply.now) v (node_value number ks c.add.new.trail) c.args.post.now c.add.new.post) c.self.view_is
    (heard_on number c.self.inside.locals.items ks c.self.inside.trail c.add.new.trail c.args.post.now c.add.new.post c.args.message.now c.in_ok-heard.heard
    c.args.reply.now c.in_ok-heard.ensures.same c.in_ok-heard.ensures.moves c.in_ok-add.ensures.adds)

pub invariant_of-self-in_err-add : goal.invariant_of-self-in_err-add
invariant_of-self-in_err-add c = subst NoRepeats (sym c.hear_so.ensures.numbers) c.self.invariant

pub invariant_of-self-2 : goal.invariant_of-self-2
invariant_of-self-2 c = subst NoRepeats (sym c.hear_so.ensures.numbers) c.self.invariant
