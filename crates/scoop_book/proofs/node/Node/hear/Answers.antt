use Rattle.std.proofs.Common.{refl}
use Rattle.scoop_book.specs.declared.event.Event.TheVariants.{Hear}
use Rattle.scoop_book.specs.declared.event.Reply.TheVariants.{Heard}
use Rattle.scoop_book.proofs.NodeLemmas.{pass_gains}
use Rattle.scoop_book.proofs.node.Node.hear.Goals as goal

pub returns-clause-gains : goal.returns-clause-gains
returns-clause-gains g c =
    pass_gains c.pass.inside.number _ c.pass.inside.events.entries c.make_room.new.self.entries c.enter.new.self.entries c.pass.inside.number (Hear c.args.message.now)
    (Hear c.args.message.now) (Heard c.in-Ok-hear_in.heard) c.heard_reply-reply.result c.args.pass.now
    c.pass.view_is c.enter.ensures c.make_room.ensures.entries refl c.heard_reply-reply.ensures
