use Rattle.std.proofs.Common.{false, sym, ap, subst}
use Rattle.scoop_keeper.specs.Keeper.{IsSame, Stays}
use Rattle.scoop_book.specs.Kept.{HandlersValue}
use Rattle.scoop_book.specs.Opening.{MayOpen}
use Rattle.scoop_book.proofs.OpeningLemmas.{opened_book_of, unloaded}
use Rattle.scoop_book.proofs.book.Book.open_limited.Goals as goal

pub returns-in-Err-clause-refused : goal.returns-in-Err-clause-refused
returns-in-Err-clause-refused g c =
    unloaded g.B.Behaviour.class (g.K.Keeper.handlers c.args.keeper) (g.K.Keeper.is_honest c.open_all.new.keeper) ((k : g.row.K.Denot) → g.K.Keeper.is_honest k)
    (λ all. all c.open_all.new.keeper) c.args.handlers.items c.in-Err.error
    (subst (MayOpen g.B.Behaviour.class) c.deref.ensures.value c.in_default.ensures.none) c.in-Err.ensures.refused

pub returns-clause-may : goal.returns-clause-may
returns-clause-may g c = (subst (MayOpen g.B.Behaviour.class) c.deref.ensures.value c.in_default.ensures.none)

pub invariant_of-result : goal.invariant_of-result
invariant_of-result g c =
    opened_book_of g.B.Behaviour.words g.K.Keeper.handlers g.K.Keeper.is_honest c.args.keeper c.open_all.new.keeper c.args.handlers.items c.in-Ok.opened.1.items
    c.in-Ok.opened.0.items c.args.limit false c.new.result c.new-2.result.entries
    c.new.ensures c.new-2.ensures c.in-Ok.ensures.opens c.in-Ok.ensures.kept
    (subst (MayOpen g.B.Behaviour.class) c.deref.ensures.value c.in_default.ensures.none).apart c.open_all.ensures.handlers c.open_all.ensures.honest

pub returns-clause-sound : goal.returns-clause-sound
returns-clause-sound g c =
    opened_book_of g.B.Behaviour.words g.K.Keeper.handlers g.K.Keeper.is_honest c.args.keeper c.open_all.new.keeper c.args.handlers.items c.in-Ok.opened.1.items
    c.in-Ok.opened.0.items c.args.limit false c.new.result c.new-2.result.entries
    c.new.ensures c.new-2.ensures c.in-Ok.ensures.opens c.in-Ok.ensures.kept
    (subst (MayOpen g.B.Behaviour.class) c.deref.ensures.value c.in_default.ensures.none).apart c.open_all.ensures.handlers c.open_all.ensures.honest

pub returns-clause-kept : goal.returns-clause-kept
returns-clause-kept g c =
    subst (λ k. g.K.Keeper.is_honest k → Stays (g.K.Keeper.handlers c.args.keeper) (g.K.Keeper.handlers k))
    (sym (ap (λ (h : HandlersValue g.row.K.Denot). h.keeper) c.new.ensures)) c.open_all.ensures.handlers

pub returns-clause-incarnations : goal.returns-clause-incarnations
returns-clause-incarnations g c =
    subst (λ k. g.K.Keeper.is_honest k → IsSame (g.K.Keeper.incarnations c.args.keeper) (g.K.Keeper.incarnations k))
    (sym (ap (λ (h : HandlersValue g.row.K.Denot). h.keeper) c.new.ensures)) c.open_all.ensures.incarnations

pub returns-clause-honest : goal.returns-clause-honest
returns-clause-honest g c =
    subst (λ k. g.K.Keeper.is_honest k → g.K.Keeper.is_honest c.args.keeper)
    (sym (ap (λ (h : HandlersValue g.row.K.Denot). h.keeper) c.new.ensures)) c.open_all.ensures.honest
