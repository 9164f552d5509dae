-- One list of several parties' moves: each party's own part, and the whole.
use Rattle.scoop_weave.proofs.Names.{◌≡◌, ℕ, zero, suc, ◌+◌, ◌==◌, Bool, List, [], ◌∷◌, ◌++◌, map, filter, length, slice_get, Some, refl, ap, ◌∙◌, subst, arith}
use Rattle.scoop_weave.proofs.Names.{if◌then◌else◌, AllByRecursion, by_test, own, party_at}
use Rattle.std.specs.Prelude.{unwrap_or}
use Rattle.std.specs.Option.{option_map}
use Rattle.std.proofs.lemmas.Option.{slice_get-map, slice_get_past}
use Rattle.scoop_weave.proofs.NodeHistories.{number_itself}

module _ {A : Type 0} where
  abbrev items : List (ℕ × A) → List A
  items order = map (λ x. x.1) order

  -- a test that holds of this party's items alone finds them all
  pub filtered : (test : A → Bool) (i : ℕ) (order : List (ℕ × A)) → AllByRecursion (λ x. test x.1 ≡ (x.0 == i)) order → filter test (items order) ≡ own i order
  filtered test i [] tells = refl
  filtered test i (x ∷ xs) tells = grind (arith, (filtered test i xs tells.1))

  -- a fact of each party's items is one of all items
  pub all_through : (P : ℕ → A → Type 0) (order : List (ℕ × A)) → ((j : ℕ) → AllByRecursion (P j) (own j order)) → AllByRecursion (λ x. P x.0 x.1) order
  all_through P [] each = tt
  all_through P (x ∷ xs) each =
      let here : AllByRecursion (P x.0) (x.1 ∷ own x.0 xs) =
      subst (λ t. AllByRecursion (P x.0) (if t then x.1 ∷ own x.0 xs else own x.0 xs)) (number_itself x.0) (each x.0) in (
        here.0,
        all_through P xs
            (λ j. by_test (λ t. AllByRecursion (P j) (if t then x.1 ∷ own j xs else own j xs) → AllByRecursion (P j) (own j xs)) (x.0 == j) (λ _ both. both.1)
            (λ _ rest. rest) (each j)),
      )

module _ {A : Type 0} where
  pub by_place : (P : A → Type 0) (xs : List A) → ((i : ℕ) (x : A) → slice_get xs i ≡ Some x → P x) → AllByRecursion P xs
  by_place P [] each = tt
  by_place P (x ∷ xs) each = (each 0 x refl, by_place P xs (λ i. each (suc i)))

  -- the party at a place of two lists of parties, which are seen through functions
  pub in_front : {B : Type 0} (f : A → List B) (xs : List A) (rest : List (List B)) (j : ℕ) (x : A) → slice_get xs j ≡ Some x
      → party_at (map f xs ++ rest) j ≡ f x
  in_front f [] rest j x e = absurd (cc)
  in_front f (y ∷ ys) rest zero x e = let same : y ≡ x = cc in ap f same
  in_front f (y ∷ ys) rest (suc j) x e = in_front f ys rest j x e

  pub past_front : {B : Type 0} (f : A → List B) (xs : List A) (rest : List (List B)) (k j : ℕ) → j ≡ length xs + k
      → party_at (map f xs ++ rest) j ≡ party_at rest k
  past_front f [] rest k j e = ap (party_at rest) (let same : j ≡ k = omega arith in same)
  past_front f (y ∷ ys) rest k zero e = let none : ⊥ = omega arith in absurd none
  past_front f (y ∷ ys) rest k (suc j) e = past_front f ys rest k j (omega arith)

  pub there : {B : Type 0} (f : A → List B) (xs : List A) (j : ℕ) (x : A) → slice_get xs j ≡ Some x → party_at (map f xs) j ≡ f x
  there f xs j x e = ap (λ o. unwrap_or o []) (slice_get-map f xs j ∙ ap (option_map f) e)

  pub nobody_there : {B : Type 0} (f : A → List B) (xs : List A) (k j : ℕ) → j ≡ length xs + k → party_at (map f xs) j ≡ []
  nobody_there f xs k j e = ap (λ o. unwrap_or o []) (slice_get-map f xs j ∙ ap (option_map f) (slice_get_past xs j (omega (arith, e))))

  -- a place within the list, or past its end
  pub data Place (xs : List A) (j : ℕ) : Type 0 where
    within : (x : A) → slice_get xs j ≡ Some x → Place xs j
    past : (k : ℕ) → j ≡ length xs + k → Place xs j

  pub place_of : (xs : List A) (j : ℕ) → Place xs j
  place_of [] j = past j (omega arith)
  place_of (x ∷ xs) zero = within x refl
  place_of (x ∷ xs) (suc j) = next (place_of xs j)
    where
      next : Place xs j → Place (x ∷ xs) (suc j)
      next (within y e) = within y e
      next (past k e) = past k (omega arith)
