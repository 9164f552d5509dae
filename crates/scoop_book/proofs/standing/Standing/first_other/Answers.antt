use Rattle.std.proofs.Common.{List, ◌∙◌, subst}
use Rattle.std.specs.Prelude.{IfNone, IfOk, IfSome}
use Rattle.scoop_book.specs.Moves.{LocalHandler}
use Rattle.scoop_book.specs.Reopening.{AllOpenAgain}
use Rattle.scoop_book.proofs.standing.Standing.first_other.Goals as goal

pub returns-clause-none : goal.returns-clause-none
returns-clause-none g c =
    subst (λ (hs : List LocalHandler). IfOk c.first_other.result (λ place. IfNone place (AllOpenAgain hs c.args.opened.now)))
    (c.deref-2.ensures.value ∙ c.self.view_is) c.first_other.ensures.none

pub returns-clause-some : goal.returns-clause-some
returns-clause-some g c =
    subst (λ (hs : List LocalHandler). IfOk c.first_other.result (λ place. IfSome place (λ i. AllOpenAgain hs c.args.opened.now → ⊥)))
    (c.deref-2.ensures.value ∙ c.self.view_is) c.first_other.ensures.some
