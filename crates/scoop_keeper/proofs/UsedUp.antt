-- A vector that is used up item by item.
use Rattle.std.proofs.Common.{◌≡◌, List, [], ◌∷◌, ◌++◌, length, sym, ap, refl, ◌∙◌, arith, append-nil}
use Rattle.std.specs.List.{AllByRecursion}
use Rattle.std.specs.Iterator.{Yields}
use Rattle.std.specs.Vec.Iter.{into_iter_items, into_iter_len, into_iter_steps}
use Rattle.std.specs.declared.vec.IntoIter.{IntoIter}

-- the items that it has given are a front of all its items
pub taken_front : {X A : Type 0} (s : IntoIter X A) (xs : List X) (t : IntoIter X A) → Yields into_iter_steps s xs t
    → into_iter_items s ≡ xs ++ into_iter_items t
taken_front s [] t y = ap into_iter_items y
taken_front s (x ∷ xs) t y = y.1.0 ∙ ap (λ ys. x ∷ ys) (taken_front y.0 xs t y.2)

-- a property of all items holds of the next one
pub all_next : {X : Type 0} (P : X → Type 0) (done : List X) (x : X) (left : List X) → AllByRecursion P (done ++ x ∷ left) → P x
all_next P [] x left all = all.0
all_next P (y ∷ done) x left all = all_next P done x left all.1

-- nothing is left of it
pub taken_all : {X A : Type 0} (s : IntoIter X A) (xs : List X) (t : IntoIter X A) → Yields into_iter_steps s xs t → into_iter_len t ≡ 0
    → into_iter_items s ≡ xs
taken_all s xs t y none = taken_front s xs t y ∙ ap (λ ys. xs ++ ys) (no_items (into_iter_items t) (sym t.rest.ok.0 ∙ none)) ∙ append-nil xs
  where
    no_items : {Y : Type 0} (ys : List Y) → length ys ≡ 0 → ys ≡ []
    no_items [] e = refl
    no_items (y ∷ ys) e = absurd (omega (arith, e))
