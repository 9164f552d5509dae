use Rattle.std.proofs.Common.{refl, subst, sym}
use Rattle.scoop_book.specs.Kept.{IsHeld}
use Rattle.scoop_book.proofs.BookLemmas.{held_refused}
use Rattle.scoop_book.proofs.handlers.Handlers.commit.Goals as goal

pub returns-clause-held : goal.returns-clause-held
returns-clause-held g c =
    held_refused g.K.Keeper.handlers g.K.Keeper.is_honest c.self.inside.locals.items c.self.inside.locals.items c.self.inside.keeper c.commit.new.self
    (subst (IsHeld g.K.Keeper.handlers g.K.Keeper.is_honest) (sym c.self.view_is) c.requires.held) refl c.commit.ensures.honest c.commit.ensures.handlers
