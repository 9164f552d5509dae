use Rattle.scoop_book.specs.Closing.{FollowsOpening}
use Rattle.std.proofs.Common.{sym, subst}
use Rattle.scoop_book.proofs.ReopeningLemmas.{ended_with}
use Rattle.scoop_book.proofs.node.Node.close_standing.Goals as goal

pub returns-in-Ok-clause-ended : goal.returns-in-Ok-clause-ended
returns-in-Ok-clause-ended g c =
    ended_with g.K.Keeper.handlers g.K.Keeper.is_honest c.args.self.passes c.args.passes.items c.in-Ok.book.history
    c.in-Ok.book.keeper c.into_standing.result.0 c.in-Ok.book.handlers c.into_standing.result.1 c.into_standing.ensures.keeper c.into_standing.ensures.stand
    c.in-Ok.ensures.closes

pub returns-in-Ok-clause-since : goal.returns-in-Ok-clause-since
returns-in-Ok-clause-since g c =
    subst (λ k. FollowsOpening g.K.Keeper.handlers g.K.Keeper.is_honest c.args.passes.items k) (sym c.into_standing.ensures.keeper) c.in-Ok.ensures.since
