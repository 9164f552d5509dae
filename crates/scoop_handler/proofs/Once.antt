-- Lists without repetition, once another element joins.
use Rattle.std.proofs.Common.{◌≡◌, ◌⊎◌, inl, inr, ℕ, zero, suc, List, [], ◌∷◌, ◌++◌, length, map, slice_get, Some, refl, sym, ap, ◌∙◌, subst, ⊎_elim}
use Rattle.std.proofs.lemmas.List.{map-append}
use Rattle.std.specs.List.{AllByRecursion}
use Rattle.scoop_message.specs.Lists.{NoRepeats}

module _ {A : Type 0} where
  pushed_at : (xs : List A) (y x : A) (i : ℕ) → slice_get (xs ++ y ∷ []) i ≡ Some x → (slice_get xs i ≡ Some x) ⊎ ((i ≡ length xs) × (y ≡ x))
  pushed_at [] y x zero e = inr (refl, cc)
  pushed_at [] y x (suc i) e = absurd (cc)
  pushed_at (z ∷ zs) y x zero e = inl e
  pushed_at (z ∷ zs) y x (suc i) e =
      ⊎_elim
      (λ (p : slice_get zs i ≡ Some x). inl p)
      (λ (p : (i ≡ length zs) × (y ≡ x)). inr (ap suc p.0, p.1))
      (pushed_at zs y x i e)

  once_pushed : (xs : List A) (y : A) → NoRepeats xs → ((i : ℕ) → slice_get xs i ≡ Some y → ⊥) → NoRepeats (xs ++ y ∷ [])
  once_pushed xs y once new i j x e f =
      ⊎_elim
      (λ (p : slice_get xs i ≡ Some x).
      ⊎_elim
      (λ (q : slice_get xs j ≡ Some x). once i j x p q)
      (λ (q : (j ≡ length xs) × (y ≡ x)). absurd (new i (p ∙ ap Some (sym q.1))))
      (pushed_at xs y x j f))
      (λ (p : (i ≡ length xs) × (y ≡ x)).
      ⊎_elim
      (λ (q : slice_get xs j ≡ Some x). absurd (new j (q ∙ ap Some (sym p.1))))
      (λ (q : (j ≡ length xs) × (y ≡ x)). p.0 ∙ sym q.0)
      (pushed_at xs y x j f))
      (pushed_at xs y x i e)

module _ {A B : Type 0} (key : A → B) where
  absent : (xs : List A) (b : B) → AllByRecursion (λ x. key x ≡ b → ⊥) xs → (i : ℕ) → slice_get (map key xs) i ≡ Some b → ⊥
  absent [] b apart i e = absurd (cc)
  absent (x ∷ xs) b apart zero e = let same : key x ≡ b = cc in apart.0 same
  absent (x ∷ xs) b apart (suc i) e = absent xs b apart.1 i e

  -- no key stands twice if the new one's is none of the others'
  pub once_more : (xs : List A) (y : A) → NoRepeats (map key xs) → AllByRecursion (λ x. key x ≡ key y → ⊥) xs → NoRepeats (map key (xs ++ y ∷ []))
  once_more xs y once apart = subst NoRepeats (sym (map-append key xs (y ∷ []))) (once_pushed (map key xs) (key y) once (absent xs (key y) apart))
