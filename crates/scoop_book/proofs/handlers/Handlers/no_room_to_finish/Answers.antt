use Rattle.scoop_book.proofs.BookLemmas.{if_there}
use Rattle.scoop_book.proofs.handlers.Handlers.no_room_to_finish.Goals as goal

pub returns-clause-stranger : goal.returns-clause-stranger
returns-clause-stranger g c =
    if_there g.K.Keeper.handlers g.K.Keeper.is_honest c.self.inside.locals.items c.self.inside.keeper c.args.self.now c.self.view_is c.args.done.now.handler
    c.args.at c.index.result.now c.requires c.index.ensures
    _ c.no_room_to_finish.ensures.stranger
