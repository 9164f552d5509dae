-- Each party's moves, as a list of moves grows.
use Rattle.std.proofs.Common.{◌≡◌, ℕ, ◌≤◌, ◌==◌, false, List, [], ◌∷◌, ◌++◌, map, length, slice_get, Some, refl, sym, ap, ◌∙◌, subst, append_assoc, append-nil}
use Rattle.std.proofs.Common.{arith}
use Rattle.std.specs.Prelude.{if◌then◌else◌}
use Rattle.std.specs.List.{AllByRecursion}
use Rattle.scoop_model.proofs.Basics.{by_test}
use Rattle.scoop_weave.specs.Order.{own}
use Rattle.scoop_weave.proofs.NodeHistories.{number_itself}
use Rattle.scoop_weaver.specs.Weaving.{IsStart}

module _ {A : Type 0} where
  pub own_snoc : (i : ℕ) (xs : List (ℕ × A)) (x : ℕ × A) → own i (xs ++ x ∷ []) ≡ own i xs ++ own i (x ∷ [])
  own_snoc i [] x = refl
  own_snoc i (y ∷ ys) x =
      by_test
      (λ t. (if t then y.1 ∷ own i (ys ++ x ∷ []) else own i (ys ++ x ∷ [])) ≡ (if t then y.1 ∷ own i ys else own i ys) ++ own i (x ∷ []))
      (y.0 == i)
      (λ _. ap (λ zs. y.1 ∷ zs) (own_snoc i ys x))
      (λ _. own_snoc i ys x)

  pub own_more : (p : ℕ) (xs : List (ℕ × A)) (t : A) → own p (xs ++ (p, t) ∷ []) ≡ own p xs ++ t ∷ []
  own_more p xs t = own_snoc p xs (p, t) ∙ ap (λ b. own p xs ++ (if b then t ∷ [] else [])) (number_itself p)

  pub own_same : (i p : ℕ) (xs : List (ℕ × A)) (t : A) → (p == i) ≡ false → own i (xs ++ (p, t) ∷ []) ≡ own i xs
  own_same i p xs t e = own_snoc i xs (p, t) ∙ (ap (λ b. own i xs ++ (if b then t ∷ [] else [])) e ∙ append-nil (own i xs))

  -- the moves after a beginning
  pub next_rest : (xs rest : List A) (t : A) → slice_get (xs ++ rest) (length xs) ≡ Some t → (more : List A) × (rest ≡ t ∷ more)
  next_rest [] [] t e = absurd (cc)
  next_rest [] (y ∷ more) t e = (more, (let same : y ≡ t = cc in ap (λ z. z ∷ more) same))
  next_rest (x ∷ xs) rest t e = next_rest xs rest t e

  pub next_is : (xs : List A) (t : A) (more : List A) → slice_get (xs ++ t ∷ more) (length xs) ≡ Some t
  next_is [] t more = refl
  next_is (x ∷ xs) t more = next_is xs t more

  pub start_more : (xs ys : List A) (t : A) → IsStart xs ys → slice_get ys (length xs) ≡ Some t → IsStart (xs ++ t ∷ []) ys
  start_more xs ys t s e =
      let next = next_rest xs s.rest t (ap (λ zs. slice_get zs (length xs)) s.is ∙ e) in
      record { rest = next.0; is = append_assoc xs (t ∷ []) next.0 ∙ (ap (λ zs. xs ++ zs) (sym next.1) ∙ s.is) }

  pub cancel : (xs ys zs : List A) → xs ++ ys ≡ xs ++ zs → ys ≡ zs
  cancel [] ys zs e = e
  cancel (x ∷ xs) ys zs e = let rest : xs ++ ys ≡ xs ++ zs = cc in cancel xs ys zs rest

  pub start_len : (xs ys : List A) → IsStart xs ys → length xs ≤ length ys
  start_len xs ys s = subst (λ zs. length xs ≤ length zs) s.is (front xs s.rest)
    where
      front : (hs bs : List A) → length hs ≤ length (hs ++ bs)
      front [] bs = omega arith
      front (a ∷ hs) bs = let h = front hs bs in omega arith

  -- a beginning of the same length is the whole
  pub start_whole : (xs ys : List A) → IsStart xs ys → length ys ≤ length xs → xs ≡ ys
  start_whole xs ys s e = whole xs s.rest ys s.is e
    where
      whole : (hs bs cs : List A) → hs ++ bs ≡ cs → length cs ≤ length hs → hs ≡ cs
      whole [] [] cs f e = f
      whole [] (b ∷ bs) cs f e = let long = ap (λ zs. length zs) f in let none : ⊥ = omega arith in absurd none
      whole (a ∷ hs) bs [] f e = absurd (cc)
      whole (a ∷ hs) bs (c ∷ cs) f e =
          let first : a ≡ c = cc in
          let rest : hs ++ bs ≡ cs = cc in
          ap (λ z. z ∷ hs) first ∙ ap (λ zs. c ∷ zs) (whole hs bs cs rest (omega arith))

  pub of_nothing : (xs : List A) → IsStart xs [] → xs ≡ []
  of_nothing [] s = refl
  of_nothing (x ∷ xs) s = let h = s.is in absurd (cc)

  pub all_start : (P : A → Type 0) (xs ys : List A) → IsStart xs ys → AllByRecursion P ys → AllByRecursion P xs
  all_start P xs ys s all = front xs s.rest (subst (AllByRecursion P) (sym s.is) all)
    where
      front : (hs bs : List A) → AllByRecursion P (hs ++ bs) → AllByRecursion P hs
      front [] bs all = tt
      front (a ∷ hs) bs all = (all.0, front hs bs all.1)

  pub all_own : (P : A → Type 0) (i : ℕ) (order : List (ℕ × A)) → AllByRecursion P (map (λ x. x.1) order) → AllByRecursion P (own i order)
  all_own P i [] all = tt
  all_own P i (x ∷ xs) all =
      by_test (λ t. AllByRecursion P (if t then x.1 ∷ own i xs else own i xs)) (x.0 == i) (λ _. (all.0, all_own P i xs all.1)) (λ _. all_own P i xs all.1)

  pub own_split : (i : ℕ) (xs ys : List (ℕ × A)) → own i (xs ++ ys) ≡ own i xs ++ own i ys
  own_split i [] ys = refl
  own_split i (x ∷ xs) ys =
      by_test (λ t. (if t then x.1 ∷ own i (xs ++ ys) else own i (xs ++ ys)) ≡ (if t then x.1 ∷ own i xs else own i xs) ++ own i ys) (x.0 == i)
      (λ _. ap (λ zs. x.1 ∷ zs) (own_split i xs ys))
      (λ _. own_split i xs ys)
