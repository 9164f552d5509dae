-- A list that gathers one result for each element.
use Rattle.std.proofs.Common.{◌≡◌, List, [], ◌∷◌, ◌++◌, map, sym, ap, ◌∙◌, append_assoc}
use Rattle.std.proofs.lemmas.List.{map-append}

module _ {A B : Type 0} where
  -- one more, of a list that is gone through
  pub next_gathered :
      (f : A → B) (front next : List A) (h k : A) (start ms ns : List B) (t : B) → ms ≡ start ++ map f front → next ≡ front ++ k ∷ [] → t ≡ f h → h ≡ k
      → ns ≡ ms ++ t ∷ [] → ns ≡ start ++ map f next
  next_gathered f front next h k start ms ns t so is told same more =
      more ∙ (ap (λ xs. xs ++ t ∷ []) so ∙ (append_assoc start (map f front) (t ∷ [])
      ∙ (ap (λ x. start ++ (map f front ++ x ∷ [])) (told ∙ ap f same)
      ∙ (ap (λ xs. start ++ xs) (sym (map-append f front (k ∷ []))) ∙ ap (λ xs. start ++ map f xs) (sym is)))))
