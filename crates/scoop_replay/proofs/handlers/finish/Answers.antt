use Rattle.scoop_replay.proofs.Numbering.{ran_at, ran_numbers}
use Rattle.scoop_replay.proofs.handlers.finish.Goals as goal

pub returns-clause-moves : goal.returns-clause-moves
returns-clause-moves c =
    ran_at c.args.locals.now.items c.args.place c.index_mut-local.result.now c.finish.new.self c.args.handler c.finish.result c.requires.apart c.requires.first
    c.index_mut-local.ensures.value c.finish.ensures.finishes

pub returns-clause-numbers : goal.returns-clause-numbers
returns-clause-numbers c =
    ran_numbers c.args.locals.now.items c.args.place c.index_mut-local.result.now c.finish.new.self c.args.handler c.finish.result c.requires.first
    c.index_mut-local.ensures.value c.finish.ensures.finishes c.finish.ensures.none
