use Rattle.std.proofs.Common.{ap}
use Rattle.scoop_book.specs.declared.event.Event.TheVariants.{Finish}
use Rattle.scoop_book.specs.declared.event.Reply.TheVariants.{Finished}
use Rattle.scoop_book.proofs.NodeLemmas.{pass_gains}
use Rattle.scoop_book.proofs.node.Node.finish.Goals as goal

pub returns-clause-gains : goal.returns-clause-gains
returns-clause-gains g c =
    pass_gains c.pass.inside.number _ c.pass.inside.events.entries c.make_room.new.self.entries c.enter.new.self.entries c.pass.inside.number (Finish c.args.done.handler)
    (Finish c.handler-handler.result) (Finished c.in-Ok-finish_in.ran) c.finished-reply.result c.args.pass.now
    c.pass.view_is c.enter.ensures c.make_room.ensures.entries (ap Finish c.handler-handler.ensures) c.finished-reply.ensures
