-- The rows of a table with an integer key, as a map from keys to values.
use Rattle.std.proofs.Common.{◌≡◌, ◌≢◌, ℕ, pos, List, [], ◌∷◌, Bool, true, false, filter, find, slice_get, ℤ, Some, refl, sym, ap, ◌∙◌, inl, inr, arith}
use Rattle.std.proofs.Common.{Ordering, Less, Equal, Greater, int_cmp}
use Rattle.std.specs.Ordering.{is_eq, match_ordering}
use Rattle.std.proofs.lemmas.Bool.{cases_Bool}
use Rattle.std.proofs.lemmas.Bool.Decides.{nat_tests}
use Rattle.std.proofs.lemmas.Cmp.{tied_itself}
use Rattle.std.proofs.lemmas.Int.{ints}
use Rattle.sqlite_value.specs.declared.value.Value.TheVariants.{Int}
use Rattle.sqlite_value.specs.Order.{Row, value_cmp}
use Rattle.sqlite_value.proofs.OrderLemmas.{value_cmp_total, value_cmp-Int}
use Rattle.sqlite_trees.specs.Tree.{rowid, has_rowid, put_row, without_rowid}

pub equal_is : (o : Ordering) → is_eq o ≡ true → o ≡ Equal
equal_is Less h = absurd (cc)
equal_is Equal h = refl
equal_is Greater h = absurd (cc)

-- the first of those that pass
pub found_first : {X : Type 0} (p : X → Bool) (xs : List X) → find p xs ≡ slice_get (filter p xs) 0
found_first p [] = refl
found_first p (x ∷ xs) = go (p x) refl (found_first p xs)
  where
    go : (b : Bool) → p x ≡ b → find p xs ≡ slice_get (filter p xs) 0 → find p (x ∷ xs) ≡ slice_get (filter p (x ∷ xs)) 0
    go true is later = rw is refl
    go false is later = rw is later

-- a row with one key has no other
pub other_key : (key other : ℕ) (r : Row) → has_rowid (pos key) r ≡ true → other ≢ key → has_rowid (pos other) r ≡ false
other_key key other r h apart =
    let tied = value_cmp_total.congr (rowid r) (Int (pos key)) (Int (pos other)) (equal_is _ h) in
    rw (tied, value_cmp-Int (pos key) (pos other)) (elim (cases_Bool (is_eq (int_cmp (pos key) (pos other)))) [
      | inl same ↦ absurd (apart (grind (arith, ints, nat_tests)))
      | inr differ ↦ differ
    ])

-- two values that are one key are one to the order
pub has_own : (key : ℕ) (other : ℤ) (r : Row) → has_rowid (pos key) r ≡ true → has_rowid other r ≡ is_eq (int_cmp (pos key) other)
has_own key other r h = rw (value_cmp_total.congr (rowid r) (Int (pos key)) (Int other) (equal_is _ h), value_cmp-Int (pos key) other) refl

pub find_own : (key : ℕ) → is_eq (value_cmp (Int (pos key)) (Int (pos key))) ≡ true
find_own key = rw (tied_itself value_cmp_total (Int (pos key))) refl

module _ (key : ℕ) (new : Row) (keyed : rowid new ≡ Int (pos key)) where
  own : has_rowid (pos key) new ≡ true
  own = rw (keyed, tied_itself value_cmp_total (Int (pos key))) refl

  pub find_put : (rows : List Row) → find (has_rowid (pos key)) (put_row new rows) ≡ Some new
  find_put [] = rw own refl
  find_put (r ∷ rows) = go (value_cmp (rowid r) (rowid new)) refl (find_put rows)
    where
      go : (o : Ordering) → value_cmp (rowid r) (rowid new) ≡ o → find (has_rowid (pos key)) (put_row new rows) ≡ Some new
          → find (has_rowid (pos key)) (match_ordering o (r ∷ put_row new rows) (new ∷ rows) (new ∷ r ∷ rows)) ≡ Some new
      go Less is later = let other : has_rowid (pos key) r ≡ false = ap (λ v. is_eq (value_cmp (rowid r) v)) (sym keyed) ∙ ap is_eq is in rw other later
      go Equal is later = rw own refl
      go Greater is later = rw own refl

  pub find_other : (other : ℕ) (rows : List Row) → other ≢ key → find (has_rowid (pos other)) (put_row new rows) ≡ find (has_rowid (pos other)) rows
  find_other other [] apart = rw (other_key key other new own apart) refl
  find_other other (r ∷ rows) apart = go (value_cmp (rowid r) (rowid new)) refl (find_other other rows apart)
    where
      go : (o : Ordering) → value_cmp (rowid r) (rowid new) ≡ o → find (has_rowid (pos other)) (put_row new rows) ≡ find (has_rowid (pos other)) rows
          → find (has_rowid (pos other)) (match_ordering o (r ∷ put_row new rows) (new ∷ rows) (new ∷ r ∷ rows)) ≡ find (has_rowid (pos other)) (r ∷ rows)
      go Less is later = rw later refl
      go Equal is later =
          let same : has_rowid (pos key) r ≡ true = ap (λ v. is_eq (value_cmp (rowid r) v)) (sym keyed) ∙ ap is_eq is in
          rw (other_key key other new own apart, other_key key other r same apart) refl
      go Greater is later = rw (other_key key other new own apart) refl

pub find_without : (key other : ℕ) (rows : List Row) → other ≢ key
    → find (has_rowid (pos other)) (without_rowid (pos key) rows) ≡ find (has_rowid (pos other)) rows
find_without key other [] apart = refl
find_without key other (r ∷ rows) apart = go (has_rowid (pos key) r) refl (find_without key other rows apart)
  where
    go : (b : Bool) → has_rowid (pos key) r ≡ b → find (has_rowid (pos other)) (without_rowid (pos key) rows) ≡ find (has_rowid (pos other)) rows
        → find (has_rowid (pos other)) (without_rowid (pos key) (r ∷ rows)) ≡ find (has_rowid (pos other)) (r ∷ rows)
    go true is later = rw (is, other_key key other r is apart) later
    go false is later = rw (is, later) refl
