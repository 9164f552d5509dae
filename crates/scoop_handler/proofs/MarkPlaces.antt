-- Marks ascend, so binary search finds the one place of a client's mark.
use Rattle.std.proofs.Common.{◌≡◌, ℕ, zero, suc, ◌+◌, ◌<◌, ◌≤◌, true, false, nat_lt, List, [], ◌∷◌, Some, None, length, set, get_or, refl}
use Rattle.std.proofs.Common.{sym, ap, subst, inl, inr, arith}
use Rattle.std.specs.List.{prefix_len}
use Rattle.std.specs.List.Sorted.{IsNonDecreasingBy}
use Rattle.std.proofs.lemmas.Bool.{cases_Bool}
use Rattle.std.proofs.lemmas.Bool.Decides.{nat_tests}
use Rattle.scoop_message.specs.declared.name.ClientId.{ClientId}
use Rattle.scoop_message.specs.Message.{same_client}
use Rattle.scoop_handler.specs.declared.mark.Mark.{Mark}
use Rattle.scoop_handler.specs.Marks.{IsPlaceOf, IsNowhere, fresh_mark, mark_of, set_mark, place_of}
use Rattle.scoop_handler.specs.declared.mark.Stage.TheVariants.{Shut}
use Rattle.scoop_handler.specs.State.{IsAscending}

-- ---- order

pub tail-ascending : (x : Mark) (xs : List Mark) → IsAscending (x ∷ xs) → IsAscending xs
tail-ascending x [] up = tt
tail-ascending x (y ∷ ys) up = up.1

above : (x : Mark) (xs : List Mark) (j : ℕ) (d : Mark) → IsAscending (x ∷ xs) → j < length xs → x.client.0 < (get_or xs j d).client.0
above x [] j d up within = absurd (omega arith)
above x (y ∷ ys) zero d up within = up.0
above x (y ∷ ys) (suc j) d up within = let later = above y ys j d up.1 (omega arith) in omega (arith, up.0, later)

pub in_order : (xs : List Mark) → IsAscending xs → IsNonDecreasingBy (λ (k : Mark). k.client.0) xs
in_order [] up i j d le within = absurd (omega arith)
in_order (x ∷ xs) up zero zero d le within = omega arith
in_order (x ∷ xs) up zero (suc j) d le within = let later = above x xs j d up (omega arith) in omega (arith, later)
in_order (x ∷ xs) up (suc i) zero d le within = absurd (omega arith)
in_order (x ∷ xs) up (suc i) (suc j) d le within = in_order xs (tail-ascending x xs up) i j d (omega arith) (omega arith)

-- ---- the place

pub place_at : (c : ClientId) (xs : List Mark) (i : ℕ) → i ≤ length xs
    → ((k : ℕ) (d : Mark) → k < i → nat_lt (get_or xs k d).client.0 c.0 ≡ true)
    → ((d : Mark) → i < length xs → nat_lt (get_or xs i d).client.0 c.0 ≡ false) → i ≡ place_of c xs
place_at c [] i within below from = omega arith
place_at c (x ∷ xs) zero within below from = rw (from x (omega arith)) refl
place_at c (x ∷ xs) (suc i) within below from =
    let n = prefix_len (λ (k : Mark). nat_lt k.client.0 c.0) xs in
    let more : 1 + n ≡ suc n = omega arith in
    rw (below zero x (omega arith), more) (ap suc (place_at c xs i (omega arith) (λ k d lt. below (suc k) d (omega arith)) (λ d lt. from d (omega arith))))

-- after a mark that isn't below, none is the client's
none_above : (c : ClientId) (x : Mark) (xs : List Mark) → IsAscending (x ∷ xs) → nat_lt x.client.0 c.0 ≡ false → mark_of c xs ≡ None
none_above c x [] up past = refl
none_above c x (y ∷ ys) up past =
    let later : nat_lt y.client.0 c.0 ≡ false = grind (arith, nat_tests) in
    let other : same_client y.client c ≡ false = grind (arith, nat_tests) in
    rw other (none_above c y ys up.1 later)

found : (c : ClientId) (xs : List Mark) (d e : Mark) → IsAscending xs → place_of c xs < length xs → same_client (get_or xs (place_of c xs) d).client c ≡ true
    → mark_of c xs ≡ Some (get_or xs (place_of c xs) e)
found c [] d e up within same = absurd (omega arith)
found c (x ∷ xs) d e up within same =
    elim (cases_Bool (nat_lt x.client.0 c.0)) [
      | inl below ↦
          let n = prefix_len (λ (y : Mark). nat_lt y.client.0 c.0) xs in
          let more : 1 + n ≡ suc n = omega arith in
          let other : same_client x.client c ≡ false = grind (arith, nat_tests) in
          let inside = rw (below, more) at within in
          rw (below, more, other) (found c xs d e (tail-ascending x xs up) (omega (arith, inside)) (rw (below, more) at same))
      | inr past ↦ let here = rw past at same in rw (past, here) refl
    ]

none : (c : ClientId) (xs : List Mark) (d : Mark) → IsAscending xs → (place_of c xs < length xs → same_client (get_or xs (place_of c xs) d).client c ≡ false)
    → mark_of c xs ≡ None
none c [] d up apart = refl
none c (x ∷ xs) d up apart =
    elim (cases_Bool (nat_lt x.client.0 c.0)) [
      | inl below ↦
          let n = prefix_len (λ (y : Mark). nat_lt y.client.0 c.0) xs in
          let more : 1 + n ≡ suc n = omega arith in
          let other : same_client x.client c ≡ false = grind (arith, nat_tests) in
          let rest = rw (below, more) at apart in
          rw other (none c xs d (tail-ascending x xs up) (λ within. rest (omega (arith, within))))
      | inr past ↦
          let rest = rw past at apart in
          rw (rest (omega arith)) (none_above c x xs up past)
    ]

-- ---- one mark is written

-- without a mark of the client there is none to set
kept : (k : Mark) (xs : List Mark) → mark_of k.client xs ≡ None → set_mark k xs ≡ xs
kept k [] gone = refl
kept k (x ∷ xs) gone =
    elim (cases_Bool (same_client x.client k.client)) [
      | inl same ↦ absurd (some_none (rw same at gone))
      | inr other ↦ rw other (ap (λ (zs : List Mark). x ∷ zs) (kept k xs (rw other at gone)))
    ] where
      some_none : {y : Mark} → Some y ≡ None → ⊥
      some_none e = cc

changed : (k : Mark) (xs : List Mark) (d : Mark) → IsAscending xs → place_of k.client xs < length xs
    → same_client (get_or xs (place_of k.client xs) d).client k.client ≡ true
    → set_mark k xs ≡ set xs (place_of k.client xs) k
changed k [] d up within same = absurd (omega arith)
changed k (x ∷ xs) d up within same =
    elim (cases_Bool (nat_lt x.client.0 k.client.0)) [
      | inl below ↦
          let n = prefix_len (λ (y : Mark). nat_lt y.client.0 k.client.0) xs in
          let more : 1 + n ≡ suc n = omega arith in
          let other : same_client x.client k.client ≡ false = grind (arith, nat_tests) in
          let inside = rw (below, more) at within in
          rw (below, more, other) (ap (λ (zs : List Mark). x ∷ zs) (changed k xs d (tail-ascending x xs up) (omega (arith, inside)) (rw (below, more) at same)))
      | inr past ↦ let here = rw past at same in rw (past, here) (ap (λ (zs : List Mark). k ∷ zs) (kept k xs (none_above k.client x xs up past)))
    ]

-- ---- both

of_client : (P : ClientId → Type 0) (c d : ClientId) → d ≡ c → P c → P d
of_client P c d e p = subst P (sym e) p

pub is_place : (c : ClientId) (xs : List Mark) (i : ℕ) (d : Mark) → IsAscending xs → i ≡ place_of c xs → i < length xs
    → same_client (get_or xs i d).client c ≡ true → IsPlaceOf c xs i
is_place c xs i d up at within same =
    let inside = rw at at within in
    let here = rw at at same in
    record {
      within = within;
      found = λ e. rw at (found c xs d e up inside here);
      change = λ k is. rw at (subst (λ (x : ClientId). place_of x xs < length xs → same_client (get_or xs (place_of x xs) d).client x ≡ true
          → set_mark k xs ≡ set xs (place_of x xs) k) is (λ in_xs own. changed k xs d up in_xs own) inside here);
    }

pub is_nowhere : (c : ClientId) (xs : List Mark) (i : ℕ) (d : Mark) → IsAscending xs → i ≡ place_of c xs
    → (i < length xs → same_client (get_or xs i d).client c ≡ false) → IsNowhere c xs
is_nowhere c xs i d up at apart =
    let gone = none c xs d up (rw at at apart) in
    record { found = gone; change = λ k is. kept k xs (rw is gone) }

pub is_outside : (c : ClientId) (xs : List Mark) (i : ℕ) → IsAscending xs → i ≡ place_of c xs → length xs ≤ i → IsNowhere c xs
is_outside c xs i up at out = is_nowhere c xs i (fresh_mark (record { client = c; inc = 0; num = 0 }) Shut) up at
    (λ within. absurd (omega (arith, within, out)))
