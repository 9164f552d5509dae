use Rattle.std.proofs.Common.{refl, ap}
use Rattle.std.specs.Option.{option_map}
use Rattle.scoop_book.specs.declared.event.Event.TheVariants.{Begin}
use Rattle.scoop_book.specs.declared.event.Reply.TheVariants.{Began}
use Rattle.scoop_book.specs.Moves.{leaves}
use Rattle.scoop_book.proofs.NodeLemmas.{pass_gains}
use Rattle.scoop_book.proofs.node.Node.begin.Goals as goal

pub returns-clause-gains : goal.returns-clause-gains
returns-clause-gains g c =
    pass_gains c.pass.inside.number _ c.pass.inside.events.entries c.make_room.new.self.entries c.enter.new.self.entries c.pass.inside.number (Begin c.args.handler)
    (Begin c.args.handler) (Began (option_map leaves c.in-Ok-begin_in.job)) (Began c.entry_left.result) c.args.pass.now
    c.pass.view_is c.enter.ensures c.make_room.ensures.entries refl (ap Began c.entry_left.ensures)
