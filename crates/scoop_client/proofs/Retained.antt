-- The result of `retain` with a closure that computes a test and doesn't change.
use Rattle.std.proofs.Common.{◌≡◌, Bool, true, false, List, [], ◌∷◌, length, refl, ap, ◌∙◌, subst, arith}
use Rattle.std.specs.List.{filter, items_where_true}
use Rattle.std.specs.List.Retain.{ReturnsInTurn, IsFiltered}

module _ {X F : Type 0} (R : F → X → Bool → F → Type 0) (test : X → Bool) (f : F) (says : (x : X) (b : Bool) (g : F) → R f x b g → (b ≡ test x) × (g ≡ f)) where
  told : (bs : List Bool) (xs : List X) (q : F) → length bs ≡ length xs → ReturnsInTurn R f bs xs q → items_where_true bs xs ≡ filter test xs
  told [] [] q e t = refl
  told [] (x ∷ xs) q e t = absurd (omega arith)
  told (b ∷ bs) [] q e t = absurd t
  told (true ∷ bs) (x ∷ xs) q e t =
      let one = says x true t.0 t.1 in
      rw (← one.0) (ap (λ ys. x ∷ ys) (told bs xs q (omega arith) (subst (λ (g : F). ReturnsInTurn R g bs xs q) one.1 t.2)))
  told (false ∷ bs) (x ∷ xs) q e t =
      let one = says x false t.0 t.1 in
      rw (← one.0) (told bs xs q (omega arith) (subst (λ (g : F). ReturnsInTurn R g bs xs q) one.1 t.2))

  pub filter_from_retained : (xs ys : List X) → IsFiltered R f xs ys → ys ≡ filter test xs
  filter_from_retained xs ys k = k.4 ∙ told k.0 xs k.1 k.2 k.3
