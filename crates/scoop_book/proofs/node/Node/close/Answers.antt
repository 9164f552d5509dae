use Rattle.scoop_book.specs.Closing.{FollowsOpening}
use Rattle.std.proofs.Common.{sym, subst}
use Rattle.scoop_book.proofs.ReopeningLemmas.{closed_with}
use Rattle.scoop_book.proofs.node.Node.close.Goals as goal

pub returns-in-Ok-clause-closed : goal.returns-in-Ok-clause-closed
returns-in-Ok-clause-closed g c =
    closed_with g.K.Keeper.handlers g.K.Keeper.is_honest c.args.self.passes c.args.passes.items c.in-Ok.book.history c.into_closed.result.history.entries
    c.in-Ok.book.keeper c.into_closed.result.keeper c.in-Ok.book.handlers c.into_closed.ensures.history c.into_closed.ensures.keeper c.in-Ok.ensures.closes

pub returns-in-Ok-clause-since : goal.returns-in-Ok-clause-since
returns-in-Ok-clause-since g c =
    subst (λ k. FollowsOpening g.K.Keeper.handlers g.K.Keeper.is_honest c.args.passes.items k) (sym c.into_closed.ensures.keeper) c.in-Ok.ensures.since
