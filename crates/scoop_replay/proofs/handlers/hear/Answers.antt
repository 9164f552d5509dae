use Rattle.std.proofs.Common.{Result, Ok, Err}
use Rattle.scoop_book.specs.declared.event.Event.TheVariants as event
use Rattle.scoop_book.specs.declared.event.Reply.TheVariants as reply
use Rattle.scoop_replay.proofs.Numbering.{heard_at, heard_numbers}
use Rattle.scoop_replay.proofs.handlers.hear.Goals as goal

pub returns-clause-moves : goal.returns-clause-moves
returns-clause-moves c =
    heard_at c.args.locals.now.items c.args.place c.index_mut-local.result.now c.hear.new.self c.args.message.now c.hear.result c.requires.apart c.requires.first
    c.index_mut-local.ensures.value c.hear.ensures.hears

pub returns-clause-numbers : goal.returns-clause-numbers
returns-clause-numbers c =
    heard_numbers c.args.locals.now.items c.args.place c.index_mut-local.result.now c.hear.new.self c.args.message.now c.hear.result c.requires.first
    c.index_mut-local.ensures.value c.hear.ensures.hears c.hear.ensures.err
