-- Items found by their key, and lists whose items are seen through their places.
use Rattle.std.proofs.Common.{◌≡◌, ℕ, zero, suc, ◌+◌, ◌<◌, Bool, true, List, [], ◌∷◌, ◌++◌, map, find, length, slice_get, Some, refl, ap, ◌∙◌, subst}
use Rattle.std.proofs.Common.{arith, below_more}
use Rattle.std.specs.Prelude.{if◌then◌else◌}
use Rattle.std.specs.Bool.{Decides}
use Rattle.scoop_keeper.proofs.Keyed.{by_test, newer}

-- ---- what is found by its key

module _ {A K : Type 0} (key : A → K) (same : K → K → Bool) (decides : (a b : K) → Decides (same a b) (a ≡ b)) where
  abbrev has_key : K → A → Bool
  has_key k x = same (key x) k

  same_itself : (k : K) → same k k ≡ true
  same_itself k = (decides k k).1 refl

  pub own_found : (a old : A) (xs : List A) → find (has_key (key a)) xs ≡ Some old → find (has_key (key a)) (map (newer key same decides a) xs) ≡ Some a
  own_found a old [] e = absurd (cc)
  own_found a old (x ∷ xs) e =
      let k = key a in
      let rest = find (has_key k) (map (newer key same decides a) xs) in
      by_test
      (λ t. (if t then Some x else find (has_key k) xs) ≡ Some old → has_key k x ≡ t
      → (if has_key k (if t then a else x) then Some (if t then a else x) else rest) ≡ Some a)
      (has_key k x)
      (λ here f is. ap (λ u. if u then Some a else rest) (same_itself k))
      (λ there f is. ap (λ u. if u then Some x else rest) is ∙ own_found a old xs f) e refl

-- ---- a list whose items are seen through their places

get_front : {A : Type 0} (xs : List A) (x : A) (n : ℕ) → n < length xs → slice_get (xs ++ x ∷ []) n ≡ slice_get xs n
get_front [] x n lt = absurd (omega arith)
get_front (y ∷ ys) x zero lt = refl
get_front (y ∷ ys) x (suc n) lt = get_front ys x n (omega arith)

get_last : {A : Type 0} (xs : List A) (x : A) → slice_get (xs ++ x ∷ []) (length xs) ≡ Some x
get_last [] x = refl
get_last (y ∷ ys) x = get_last ys x

pub each_more : {A : Type 0} (f : ℕ → A) (xs : List A) (x : A) (k : ℕ) → length xs ≡ k → x ≡ f k → ((n : ℕ) → n < k → slice_get xs n ≡ Some (f n)) → (n : ℕ)
    → n < k + 1 → slice_get (xs ++ x ∷ []) n ≡ Some (f n)
each_more f xs x k count is before =
    below_more (λ (n : ℕ). slice_get (xs ++ x ∷ []) n ≡ Some (f n)) k
    (λ n lt. get_front xs x n (omega (arith, lt, count)) ∙ before n lt)
    (subst (λ (n : ℕ). slice_get (xs ++ x ∷ []) n ≡ Some (f k)) count (get_last xs x ∙ ap Some is))
