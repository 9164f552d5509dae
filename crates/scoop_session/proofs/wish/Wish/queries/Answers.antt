use Rattle.std.proofs.Common.{◌≡◌, ◌+◌, ◌∷◌, List, cond, refl, sym, ap, arith, ◌∙◌}
use Rattle.std.proofs.lemmas.List.Recursion.{is_count_by}
use Rattle.std.specs.List.{count_by}
use Rattle.scoop_driver.specs.Wishes.{queries}
use Rattle.scoop_driver.specs.declared.condition.BodyEntry.{BodyEntry}
use Rattle.scoop_driver.specs.declared.condition.BodyEntry.TheVariants.{Call, Query}
use Rattle.scoop_session.specs.Conditions.{is_query}
use Rattle.scoop_session.proofs.wish.Wish.queries.Goals as goal

one_more : (x : BodyEntry) (xs : List BodyEntry) → queries (x ∷ xs) ≡ cond (is_query x) (1 + queries xs) (queries xs)
one_more (Call h r) xs = refl
one_more (Query h r) xs = omega arith

pub returns : goal.returns
returns c =
    c.count_queries.ensures
    ∙ (ap (count_by is_query) c.body.ensures ∙ sym (is_count_by queries is_query refl one_more c.args.self.now.body.items))
