use Rattle.std.proofs.Common.{refl}
use Rattle.scoop_message.specs.Message.{handler_of}
use Rattle.scoop_book.proofs.BookLemmas.{had_stored, heard_held, heard_keeps, heard_moves}
use Rattle.scoop_book.proofs.handlers.Handlers.hear.Goals as goal

pub hear-requires : goal.hear-requires
hear-requires g c =
    had_stored g.K.Keeper.handlers g.K.Keeper.is_honest c.self.inside.locals.items c.self.inside.keeper c.args.self.now c.self.view_is
    (handler_of c.args.message.now) c.args.at c.index_mut-local.result.now c.requires.first c.index_mut-local.ensures.value
    c.requires.held

pub returns-clause-moves : goal.returns-clause-moves
returns-clause-moves g c =
    heard_moves g.K.Keeper.handlers g.K.Keeper.is_honest c.self.inside.locals.items c.self.inside.keeper c.args.self.now c.self.view_is
    (handler_of c.args.message.now) c.args.at c.index_mut-local.result.now c.requires.first c.index_mut-local.ensures.value
    c.requires.held c.args.message.now refl c.hear.new.self c.hear.new.keeper c.hear.result c.hear.ensures.heard c.hear.ensures.moved

pub returns-clause-stored : goal.returns-clause-stored
returns-clause-stored g c honest =
    heard_keeps g.K.Keeper.handlers g.K.Keeper.is_honest c.self.inside.locals.items c.self.inside.keeper c.args.self.now c.self.view_is
    (handler_of c.args.message.now) c.args.at c.index_mut-local.result.now c.requires.first c.index_mut-local.ensures.value
    c.requires.held c.args.message.now refl c.hear.new.self c.hear.new.keeper c.hear.result c.hear.ensures.heard c.hear.ensures.moved
    (c.hear.ensures.stored honest)

pub returns-clause-held : goal.returns-clause-held
returns-clause-held g c =
    heard_held g.K.Keeper.handlers g.K.Keeper.is_honest c.self.inside.locals.items c.self.inside.keeper c.args.self.now c.self.view_is
    (handler_of c.args.message.now) c.args.at c.index_mut-local.result.now c.requires.first c.index_mut-local.ensures.value
    c.requires.held c.args.message.now refl c.hear.new.self c.hear.new.keeper c.hear.result c.hear.ensures.heard c.hear.ensures.moved
    c.hear.ensures.err c.hear.ensures.honest c.hear.ensures.stored c.hear.ensures.kept
