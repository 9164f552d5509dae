-- The handlers so far have opened.
use Rattle.scoop_book.proofs.OpeningLemmas.{Opened}
use Rattle.scoop_keeper.specs.Keeper.{IsSame}
use Rattle.scoop_book.proofs.opening.open_all.Given as goal

abbrev pub invariant-loop-handed : goal.invariant-loop-handed
invariant-loop-handed g l = record {
  opened : Opened g.B.Behaviour.words g.K.Keeper.handlers g.K.Keeper.is_honest l.fn.keeper l.keeper l.yielded l.locals.items l.openings.items;
  incarnations : g.K.Keeper.is_honest l.keeper → IsSame (g.K.Keeper.incarnations l.fn.keeper) (g.K.Keeper.incarnations l.keeper);
}
