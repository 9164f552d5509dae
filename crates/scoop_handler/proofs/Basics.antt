-- Basics that the crates above use too: a case split over a test, facts of every item of a list, and lookups in a list
-- by a test or by a key.
use Rattle.std.proofs.Common.{◌≡◌, ℕ, zero, suc, Bool, true, false, cond, List, [], ◌∷◌, ◌++◌, find, slice_get, Some, refl, subst}
use Rattle.std.specs.Bool.{Decides}
use Rattle.std.specs.List.{AllByRecursion}
use Rattle.std.proofs.lemmas.Option.{none-some}

pub by_test : (Q : Bool → Type 0) (b : Bool) → (b ≡ true → Q true) → (b ≡ false → Q false) → Q b
by_test Q true t f = t refl
by_test Q false t f = f refl

-- ---- lists

pub all_append : {A : Type 0} (P : A → Type 0) (xs ys : List A) → AllByRecursion P xs → AllByRecursion P ys → AllByRecursion P (xs ++ ys)
all_append P [] ys all more = more
all_append P (x ∷ xs) ys all more = (all.0, all_append P xs ys all.1 more)

pub all_both : {A : Type 0} (P Q R : A → Type 0) → ((a : A) → P a → Q a → R a) → (xs : List A) → AllByRecursion P xs → AllByRecursion Q xs → AllByRecursion R xs
all_both P Q R each [] ps qs = tt
all_both P Q R each (x ∷ xs) ps qs = (each x ps.0 qs.0, all_both P Q R each xs ps.1 qs.1)

pub all_at : {A : Type 0} (P : A → Type 0) (xs : List A) (k : ℕ) (a : A) → slice_get xs k ≡ Some a → AllByRecursion P xs → P a
all_at P [] k a e all = absurd (cc)
all_at P (x ∷ xs) zero a e all = let p : x ≡ a = cc in subst P p all.0
all_at P (x ∷ xs) (suc k) a e all = all_at P xs k a e all.1

-- ---- lookups

pub find_passes : {A : Type 0} (p : A → Bool) (xs : List A) (x : A) → find p xs ≡ Some x → p x ≡ true
find_passes p [] x e = absurd (none-some _ e)
find_passes p (y ∷ ys) x e =
    elim (p y) as (λ b. p y ≡ b → cond b (Some y) (find p ys) ≡ Some x → p x ≡ true) [
      | true ↦ λ is found. let same : y ≡ x = cc in subst (λ z. p z ≡ true) same is
      | false ↦ λ is found. find_passes p ys x found
    ] refl e

-- the item that a lookup by a key finds has that key
pub key_found : {A K : Type 0} (key : A → K) (same : K → K → Bool) (decides : (a b : K) → Decides (same a b) (a ≡ b)) (k : K) (xs : List A) (a : A)
    → find (λ x. same (key x) k) xs ≡ Some a → key a ≡ k
key_found key same decides k xs a e = (decides (key a) k).0 (find_passes (λ x. same (key x) k) xs a e)

-- a fact of all items holds of the one that is found
pub all_found : {A : Type 0} (P : A → Type 0) (test : A → Bool) (xs : List A) (a : A) → AllByRecursion P xs → find test xs ≡ Some a → P a
all_found P test [] a all e = absurd (none-some _ e)
all_found P test (x ∷ xs) a all e =
    by_test (λ t. cond t (Some x) (find test xs) ≡ Some a → P a) (test x)
    (λ here f. let p : x ≡ a = cc in subst P p all.0)
    (λ there f. all_found P test xs a all.1 f) e
