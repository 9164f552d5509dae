-- One more element of a list that is gone through.
use Rattle.std.proofs.Common.{◌≡◌, Bool, List, [], ◌∷◌, ◌++◌, sym, ap, ◌∙◌}
use Rattle.std.proofs.lemmas.List.Elements.{filter-append}
use Rattle.std.specs.List.{filter}

-- the elements that pass a test, with one element more
pub filtered_more :
    {A : Type 0} (p : A → Bool) (front next : List A) (h k : A) (ms ns : List A) → ms ≡ filter p front → next ≡ front ++ k ∷ [] → h ≡ k
    → ns ≡ ms ++ filter p (h ∷ []) → ns ≡ filter p next
filtered_more p front next h k ms ns so is same more =
    more ∙ (ap (λ xs. xs ++ filter p (h ∷ [])) so ∙ (ap (λ x. filter p front ++ filter p (x ∷ [])) same
    ∙ (sym (filter-append p front (k ∷ [])) ∙ sym (ap (filter p) is))))
