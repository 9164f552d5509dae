-- The first items of a list, and one more.
use Rattle.std.proofs.Common.{◌≡◌, ℕ, ◌+◌, ◌<◌, List, [], ◌∷◌, ◌++◌, map, take, length, get_or, sym, ap, ◌∙◌}
use Rattle.std.proofs.lemmas.List.{map-append, take_more}

pub item_more : {A : Type 0} (xs : List A) (i : ℕ) (x : A) → i < length xs → x ≡ get_or xs i x → take (i + 1) xs ≡ take i xs ++ x ∷ []
item_more xs i x less is = take_more xs i x less ∙ ap (λ y. take i xs ++ y ∷ []) (sym is)

pub mapped_more :
    {A B : Type 0} (f : A → B) (xs : List A) (i : ℕ) (x : A) (ys zs : List B) (y : B) → i < length xs → x ≡ get_or xs i x → ys ≡ map f (take i xs)
    → y ≡ f x → zs ≡ ys ++ y ∷ [] → zs ≡ map f (take (i + 1) xs)
mapped_more f xs i x ys zs y less is so same more =
    more ∙ (ap (λ us. us ++ y ∷ []) so ∙ (ap (λ u. map f (take i xs) ++ u ∷ []) same
    ∙ (sym (map-append f (take i xs) (x ∷ [])) ∙ ap (map f) (sym (item_more xs i x less is)))))

pub mapped_pushed : {A B : Type 0} (f : A → B) (xs zs : List A) (x : A) → zs ≡ xs ++ x ∷ [] → map f zs ≡ map f xs ++ f x ∷ []
mapped_pushed f xs zs x more = ap (map f) more ∙ map-append f xs (x ∷ [])
