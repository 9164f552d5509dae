use Rattle.std.proofs.Common.{List, sym, ap, ◌∙◌, subst}
use Rattle.scoop_book.specs.Books.{BookValue}
use Rattle.scoop_book.specs.Moves.{LocalHandler}
use Rattle.scoop_book.specs.Reopening.{AllOpenAgain}
use Rattle.scoop_book.proofs.ReopeningLemmas.{otherwise}
use Rattle.scoop_book.proofs.book.Book.reopen_limited.Goals as goal

pub returns-in-Ok-Some-clause-refused : goal.returns-in-Ok-Some-clause-refused
returns-in-Ok-Some-clause-refused g c =
    let other : AllOpenAgain c.args.stood.now c.deref.result.now → ⊥ = rw c.in-Ok-Some.field-0-is at c.in-Ok-Some.ensures.some in
    otherwise g.B.Behaviour.words (g.K.Keeper.handlers c.args.keeper) (g.K.Keeper.is_honest c.in-Ok.book.keeper) ((k : g.row.K.Denot) → g.K.Keeper.is_honest k)
    (λ all. all c.in-Ok.book.keeper) c.args.handlers.items c.args.stood.now c.in-Ok.book.opening c.in-Ok.ensures.opens
    (λ all. other (subst (λ (hs : List LocalHandler). AllOpenAgain c.args.stood.now hs)
    (sym (c.deref.ensures.value ∙ ap (λ (b : BookValue g.row.K.Denot). b.opening) c.book.view_is)) all))
