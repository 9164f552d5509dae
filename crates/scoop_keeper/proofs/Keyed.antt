-- Lists whose items are found by a key. Code finds a place and writes there; the definitions look up by a key. As keys
-- don't repeat, the first item that passes a test is the one with the key, and a write at its place is a replacement by key.
use Rattle.std.proofs.Common.{◌≡◌, ℕ, zero, suc, ◌+◌, ◌<◌, Bool, true, false, ◌||◌, true≢false, List, [], ◌∷◌, map, find, length, drop, take, get_or, set}
use Rattle.std.proofs.Common.{slice_get, Option, Some, None, Contains, refl, sym, ap, ◌∙◌, subst, arith}
use Rattle.std.specs.Prelude.{if◌then◌else◌}
use Rattle.std.specs.Bool.{Decides}
use Rattle.std.specs.List.{AllByRecursion, list_any}
use Rattle.std.specs.Option.{option_map}
use Rattle.std.proofs.lemmas.Option.{slice_get-map, slice_get-get_or}
use Rattle.std.proofs.lemmas.List.{set-get_or, take-map}
use Rattle.scoop_message.specs.Lists.{NoRepeats}
pub use Rattle.scoop_handler.proofs.Basics.{by_test}
use Rattle.scoop_handler.proofs.Once.{once_more}
use Rattle.scoop_keeper.specs.Keyed.{IsFirst, IsFirstRepeat}
use Rattle.scoop_keeper.proofs.Lists.{taken}

-- ---- the first that passes a test

module _ {A : Type 0} (test : A → Bool) where
  pub first_here : (xs : List A) (i : ℕ) (x : A) → i < length xs → find test (drop i xs) ≡ find test xs → test (get_or xs i x) ≡ true → IsFirst test xs i
  first_here xs i x within left is = record { within = within; found = sym left ∙ here xs i x within is }
    where
      here : (ys : List A) (j : ℕ) (d : A) → j < length ys → test (get_or ys j d) ≡ true → find test (drop j ys) ≡ slice_get ys j
      here [] j d lt e = absurd (omega arith)
      here (y ∷ ys) zero d lt e = rw e refl
      here (y ∷ ys) (suc j) d lt e = here ys j d (omega arith) e

  pub none_here : (xs : List A) (i : ℕ) (x : A) → i < length xs → find test (drop i xs) ≡ find test xs → test (get_or xs i x) ≡ false
      → find test (drop (i + 1) xs) ≡ find test xs
  none_here xs i x within left is = next xs i x within is ∙ left
    where
      next : (ys : List A) (j : ℕ) (d : A) → j < length ys → test (get_or ys j d) ≡ false → find test (drop (j + 1) ys) ≡ find test (drop j ys)
      next [] j d lt e = absurd (omega arith)
      next (y ∷ ys) zero d lt e = rw e refl
      next (y ∷ ys) (suc j) d lt e = rw (step_on j) (next ys j d (omega arith) e)
        where
          step_on : (k : ℕ) → suc k + 1 ≡ suc (k + 1)
          step_on k = omega arith

-- the item that was read at a place
pub item_at : {A : Type 0} (xs : List A) (i : ℕ) (x : A) → i < length xs → x ≡ get_or xs i x → slice_get xs i ≡ Some x
item_at xs i x within is = slice_get-get_or xs i x within ∙ ap Some (sym is)

pub some_at : {A : Type 0} (xs : List A) (i : ℕ) → i < length xs → (x : A) × (slice_get xs i ≡ Some x)
some_at [] i within = absurd (omega arith)
some_at (x ∷ xs) zero within = (x, refl)
some_at (x ∷ xs) (suc i) within = some_at xs i (omega arith)

-- and is put there again
pub put_again : {A : Type 0} (xs : List A) (i : ℕ) (x y : A) → x ≡ get_or xs i x → y ≡ x → set xs i y ≡ xs
put_again xs i x y is same = ap (set xs i) (same ∙ is) ∙ set-get_or xs i x

-- ---- one takes the place of that with its key

module _ {A K : Type 0} (key : A → K) (same : K → K → Bool) (decides : (a b : K) → Decides (same a b) (a ≡ b)) where
  abbrev pub newer : A → A → A
  newer a x = if same (key x) (key a) then a else x

  none_newer : (a : A) (xs : List A) → ((k : ℕ) → slice_get (map key xs) k ≡ Some (key a) → ⊥) → map (newer a) xs ≡ xs
  none_newer a [] none = refl
  none_newer a (x ∷ xs) none =
      by_test (λ t. same (key x) (key a) ≡ t → (if t then a else x) ∷ map (newer a) xs ≡ x ∷ xs) (same (key x) (key a))
      (λ _ is. absurd (none zero (ap Some ((decides (key x) (key a)).0 is))))
      (λ _ is. ap (λ ys. x ∷ ys) (none_newer a xs (λ k e. none (suc k) e))) refl

  pub set_newer : (a : A) (xs : List A) (i : ℕ) → NoRepeats (map key xs) → slice_get (map key xs) i ≡ Some (key a) → set xs i a ≡ map (newer a) xs
  set_newer a [] i apart e = absurd (cc)
  set_newer a (x ∷ xs) zero apart e =
      let own : key x ≡ key a = cc in
      let here : (if same (key x) (key a) then a else x) ≡ a = ap (λ t. if t then a else x) ((decides (key x) (key a)).1 own) in
      let rest = none_newer a xs (λ k f. absurd (let zs = apart zero (suc k) (key a) e f in omega (arith, zs))) in
      ap (λ y. y ∷ xs) (sym here) ∙ ap (λ ys. newer a x ∷ ys) (sym rest)
  set_newer a (x ∷ xs) (suc i) apart e =
      by_test (λ t. same (key x) (key a) ≡ t → x ∷ set xs i a ≡ (if t then a else x) ∷ map (newer a) xs) (same (key x) (key a))
      (λ _ is. absurd (let zs = apart zero (suc i) (key a) (ap Some ((decides (key x) (key a)).0 is)) e in omega (arith, zs)))
      (λ _ is. ap (λ ys. x ∷ ys) (set_newer a xs i (λ j k y p q. let ss = apart (suc j) (suc k) y p q in omega (arith, ss)) e)) refl

  -- the new one has the property, and so have those with other keys
  pub all_newer : (P Q : A → Type 0) (a : A) (xs : List A) → Q a → ((x : A) → same (key x) (key a) ≡ false → P x → Q x) → AllByRecursion P xs
      → AllByRecursion Q (map (newer a) xs)
  all_newer P Q a [] own others all = tt
  all_newer P Q a (x ∷ xs) own others all = (
    by_test (λ t. same (key x) (key a) ≡ t → Q (if t then a else x)) (same (key x) (key a)) (λ _ is. own) (λ _ is. others x is all.0) refl,
    all_newer P Q a xs own others all.1,
  )

  pub key_at : (xs : List A) (i : ℕ) (old a : A) → slice_get xs i ≡ Some old → key a ≡ key old → slice_get (map key xs) i ≡ Some (key a)
  key_at xs i old a at same_key = slice_get-map key xs i ∙ ap (λ o. elim o as (λ _. Option K) [ None ↦ None | Some y ↦ Some (key y) ]) at
      ∙ ap Some (sym same_key)

pub all_set_at : {A : Type 0} (P : A → Type 0) (xs : List A) (i : ℕ) (a : A) → AllByRecursion P xs → P a → AllByRecursion P (set xs i a)
all_set_at P [] i a all own = tt
all_set_at P (x ∷ xs) zero a all own = (own, all.1)
all_set_at P (x ∷ xs) (suc i) a all own = (all.0, all_set_at P xs i a all.1 own)

-- ---- a list in which nothing is repeated

module _ {A K : Type 0} (key : A → K) (same : K → K → Bool) (decides : (a b : K) → Decides (same a b) (a ≡ b)) where
  none_has : (xs : List A) (k : K) → list_any (λ x. same (key x) k) xs ≡ false → AllByRecursion (λ x. key x ≡ k → ⊥) xs
  none_has [] k e = tt
  none_has (x ∷ xs) k e =
      by_test (λ t. (t || list_any (λ y. same (key y) k) xs) ≡ false → AllByRecursion (λ y. key y ≡ k → ⊥) (x ∷ xs)) (same (key x) k)
      (λ is f. absurd (true≢false f))
      (λ other f. ((λ own. true≢false (sym ((decides (key x) k).1 own) ∙ other)), none_has xs k f)) e

  one_has : (xs : List A) (k : K) → list_any (λ x. same (key x) k) xs ≡ true → Contains (map key xs) k
  one_has [] k e = absurd (true≢false (sym e))
  one_has (x ∷ xs) k e =
      by_test (λ t. (t || list_any (λ y. same (key y) k) xs) ≡ true → Contains (key x ∷ map key xs) k) (same (key x) k)
      (λ is f. (zero, omega arith, (decides (key x) k).0 is))
      (λ other f. let c = one_has xs k f in let lt = c.1 in (suc c.0, omega (arith, lt), c.2)) e

  -- an item whose key none of those before it has
  pub once_longer : (xs : List A) (i : ℕ) (x : A) → slice_get xs i ≡ Some x → NoRepeats (map key (take i xs))
      → list_any (λ y. same (key y) (key x)) (take i xs) ≡ false → NoRepeats (map key (take (i + 1) xs))
  once_longer xs i x at once new =
      subst (λ (ys : List A). NoRepeats (map key ys)) (sym (taken xs i x at)) (once_more key (take i xs) x once (none_has (take i xs) (key x) new))

  -- and one whose key one of them has
  pub first_repeat : (xs : List A) (i : ℕ) (x : A) → slice_get xs i ≡ Some x → NoRepeats (map key (take i xs))
      → list_any (λ y. same (key y) (key x)) (take i xs) ≡ true → IsFirstRepeat (map key xs) (key x)
  first_repeat xs i x at once old = record {
    place = i;
    there = slice_get-map key xs i ∙ ap (option_map key) at;
    earlier = subst (λ (ks : List K). Contains ks (key x)) (sym (take-map key i xs)) (one_has (take i xs) (key x) old);
    apart = subst NoRepeats (sym (take-map key i xs)) once;
  }
