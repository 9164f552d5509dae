-- Lists that are read and written from the front.
use Rattle.std.proofs.Common.{◌≡◌, ℕ, zero, suc, ◌+◌, ◌<◌, List, [], ◌∷◌, ◌++◌, length, take, slice_get, None, Some, sym, ap, subst, ◌∙◌, append_assoc, arith}
use Rattle.std.specs.List.{flat_map, AllByRecursion}
use Rattle.std.proofs.lemmas.List.{take_more, append-nil}
use Rattle.std.proofs.lemmas.Option.{slice_get_within, get_or_from_slice_get}
use Rattle.std.proofs.lemmas.List.Concat.{flat_map-append}

module _ {X : Type 0} where
  -- one element more
  pub taken : (xs : List X) (i : ℕ) (x : X) → slice_get xs i ≡ Some x → take (i + 1) xs ≡ take i xs ++ x ∷ []
  taken xs i x at = take_more xs i x (slice_get_within xs i x at) ∙ ap (λ (y : X). take i xs ++ y ∷ []) (get_or_from_slice_get xs i x x at)

  pub not_past : (xs : List X) (i : ℕ) → i < length xs → slice_get xs i ≡ None → ⊥
  not_past [] i lt at = omega (arith, lt)
  not_past (x ∷ xs) zero lt at = cc
  not_past (x ∷ xs) (suc i) lt at = not_past xs i (omega (arith, lt)) at

  pub all_more : (P : X → Type 0) (xs : List X) (x : X) → AllByRecursion P xs → P x → AllByRecursion P (xs ++ x ∷ [])
  all_more P [] x all p = (p, tt)
  all_more P (y ∷ ys) x all p = (all.0, all_more P ys x all.1 p)

  pub all_last : (P : X → Type 0) (xs : List X) (x : X) → AllByRecursion P (xs ++ x ∷ []) → P x
  all_last P [] x all = all.0
  all_last P (y ∷ ys) x all = all_last P ys x all.1

  pub all_take : (P : X → Type 0) (n : ℕ) (xs : List X) → AllByRecursion P xs → AllByRecursion P (take n xs)
  all_take P zero xs all = tt
  all_take P (suc n) [] all = tt
  all_take P (suc n) (x ∷ xs) all = (all.0, all_take P n xs all.1)

  pub all_both : (P Q : X → Type 0) (xs : List X) → AllByRecursion P xs → AllByRecursion Q xs → AllByRecursion (λ x. P x × Q x) xs
  all_both P Q [] p q = tt
  all_both P Q (x ∷ xs) p q = ((p.0, q.0), all_both P Q xs p.1 q.1)

  pub all_taken : (P : X → Type 0) (xs : List X) (i : ℕ) (x : X) → slice_get xs i ≡ Some x → AllByRecursion P (take i xs) → P x
      → AllByRecursion P (take (i + 1) xs)
  all_taken P xs i x at all p = subst (AllByRecursion P) (sym (taken xs i x at)) (all_more P (take i xs) x all p)

  -- the bytes of one element more, after others
  pub bytes_taken : (f : X → List ℕ) (xs : List X) (i : ℕ) (x : X) (old now new : List ℕ) → slice_get xs i ≡ Some x → now ≡ old ++ flat_map f (take i xs)
      → new ≡ now ++ f x
      → new ≡ old ++ flat_map f (take (i + 1) xs)
  bytes_taken f xs i x old now new at now-is new-is =
      let more : flat_map f (take (i + 1) xs) ≡ flat_map f (take i xs) ++ f x = ap (flat_map f) (taken xs i x at) ∙ flat_map-append f (take i xs) (x ∷ [])
      ∙ ap (λ (b : List ℕ). flat_map f (take i xs) ++ b) (append-nil (f x)) in
      new-is ∙ ap (λ (b : List ℕ). b ++ f x) now-is ∙ append_assoc old (flat_map f (take i xs)) (f x) ∙ ap (λ (b : List ℕ). old ++ b) (sym more)
