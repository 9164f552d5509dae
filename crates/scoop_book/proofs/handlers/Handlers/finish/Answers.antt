use Rattle.std.proofs.Common.{refl}
use Rattle.scoop_book.proofs.BookLemmas.{finished_held, finished_keeps, finished_moves, refused_there}
use Rattle.scoop_book.proofs.handlers.Handlers.finish.Goals as goal

pub returns-clause-moves : goal.returns-clause-moves
returns-clause-moves g c =
    finished_moves g.K.Keeper.handlers g.K.Keeper.is_honest c.self.inside.locals.items c.self.inside.keeper c.args.self.now c.self.view_is c.args.done.handler
    c.args.at c.index_mut-local.result.now c.requires.first c.index_mut-local.ensures.value
    c.requires.held c.args.done refl c.finish.new.self c.finish.new.keeper c.finish.result c.finish.ensures.ran c.finish.ensures.out c.finish.ensures.moved

pub returns-clause-stored : goal.returns-clause-stored
returns-clause-stored g c honest =
    finished_keeps g.K.Keeper.handlers g.K.Keeper.is_honest c.self.inside.locals.items c.self.inside.keeper c.args.self.now c.self.view_is c.args.done.handler
    c.args.at c.index_mut-local.result.now c.requires.first c.index_mut-local.ensures.value
    c.requires.held c.args.done refl c.finish.new.self c.finish.new.keeper c.finish.result c.finish.ensures.ran c.finish.ensures.out c.finish.ensures.moved
    (c.finish.ensures.stored honest)

pub returns-clause-stranger : goal.returns-clause-stranger
returns-clause-stranger g c =
    refused_there c.self.inside.locals.items c.self.inside.keeper c.args.self.now c.self.view_is c.args.done.handler c.args.at c.index_mut-local.result.now
    c.requires.first c.index_mut-local.ensures.value
    _ c.finish.result c.finish.ensures.stranger

pub returns-clause-held : goal.returns-clause-held
returns-clause-held g c =
    finished_held g.K.Keeper.handlers g.K.Keeper.is_honest c.self.inside.locals.items c.self.inside.keeper c.args.self.now c.self.view_is c.args.done.handler
    c.args.at c.index_mut-local.result.now c.requires.first c.index_mut-local.ensures.value
    c.requires.held c.args.done refl c.finish.new.self c.finish.new.keeper c.finish.result c.finish.ensures.ran c.finish.ensures.out c.finish.ensures.moved
    c.finish.ensures.err c.finish.ensures.honest c.finish.ensures.stored c.finish.ensures.kept
