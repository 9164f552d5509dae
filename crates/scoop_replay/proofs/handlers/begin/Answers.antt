use Rattle.scoop_book.specs.declared.event.Event.TheVariants as event
use Rattle.scoop_book.specs.declared.event.Reply.TheVariants as reply
use Rattle.scoop_book.proofs.BookLemmas.{moves_at}
use Rattle.scoop_replay.proofs.Numbering.{numbers_moved}
use Rattle.scoop_replay.proofs.handlers.begin.Goals as goal

pub returns-clause-moves : goal.returns-clause-moves
returns-clause-moves c =
    moves_at c.args.locals.now.items c.args.place c.index_mut-local.result.now c.begin.new.self (event.Begin c.args.handler) (reply.Began c.begin.result)
    c.requires.apart c.requires.first c.index_mut-local.ensures.value c.begin.ensures

pub returns-clause-numbers : goal.returns-clause-numbers
returns-clause-numbers c =
    numbers_moved c.args.locals.now.items c.args.place c.index_mut-local.result.now c.begin.new.self (event.Begin c.args.handler) (reply.Began c.begin.result)
    c.requires.first c.index_mut-local.ensures.value c.begin.ensures
