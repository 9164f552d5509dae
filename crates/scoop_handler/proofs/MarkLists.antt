-- Lookup, change and addition in a list of marks, which stand in the order of their clients, one for each. A lookup
-- finds a changed or added mark for its own client, and the same as before for every other client.
use Rattle.std.proofs.Common.{◌≡◌, ℕ, suc, ◌+◌, ◌<◌, true, false, cond, nat_lt, List, [], ◌∷◌, ◌++◌, Some, None, map, insert, length, take, drop, set}
use Rattle.std.proofs.Common.{get_or, refl, sym, ap, subst, inl, inr, arith}
use Rattle.std.specs.List.{AllByRecursion, prefix_len}
use Rattle.std.proofs.lemmas.Bool.{cases_Bool}
use Rattle.std.proofs.lemmas.Bool.Decides.{nat_tests}
use Rattle.std.proofs.lemmas.List.{get_or_default, length-map}
use Rattle.std.proofs.lemmas.List.Edits.{map_over_more}
use Rattle.std.proofs.lemmas.Option.{none-some}
use Rattle.scoop_message.specs.declared.name.ClientId.{ClientId}
use Rattle.scoop_message.specs.Message.{same_client}
use Rattle.scoop_message.proofs.Same.{client_decides}
use Rattle.scoop_handler.specs.declared.mark.Mark.{Mark}
use Rattle.scoop_handler.specs.Marks.{mark_of, newer_mark, set_mark, add_mark, place_of}
use Rattle.scoop_handler.specs.State.{IsAscending}
use Rattle.scoop_handler.proofs.Basics.{all_found, find_passes}

-- ---- clients

pub client_from_same : (c d : ClientId) → same_client c d ≡ true → c ≡ d
client_from_same c d e = (client_decides c d).0 e

pub same_client-refl : (c : ClientId) → same_client c c ≡ true
same_client-refl c = (client_decides c c).1 refl

newer_mark-client : (k x : Mark) → (newer_mark k x).client.0 ≡ x.client.0
newer_mark-client k x = grind (arith, nat_tests)

newer_mark-other : (k x : Mark) → same_client x.client k.client ≡ false → newer_mark k x ≡ x
newer_mark-other k x e = rw e refl

-- ---- changing in place

-- a loop that rewrites each element by a function
pub map_in_place : {X : Type 0} (f : X → X) (xs ys : List X) (i : ℕ) (d : X) → i < length xs → i < length ys → ys ≡ map f (take i xs) ++ drop i xs
    → set ys i (f (get_or ys i d)) ≡ map f (take (i + 1) xs) ++ drop (i + 1) xs
map_in_place f xs ys i d in_xs in_ys so_far = map_over_more f xs ys i (get_or ys i d) in_xs so_far (get_or_default ys i d _ in_ys)

-- if the function leaves the element, it may be written back
pub map_left_in_place : {X : Type 0} (f : X → X) (xs ys : List X) (i : ℕ) (d : X) → i < length xs → i < length ys → f (get_or ys i d) ≡ get_or ys i d
    → ys ≡ map f (take i xs) ++ drop i xs
    → set ys i (get_or ys i d) ≡ map f (take (i + 1) xs) ++ drop (i + 1) xs
map_left_in_place f xs ys i d in_xs in_ys same so_far =
    subst (λ x. set ys i x ≡ map f (take (i + 1) xs) ++ drop (i + 1) xs) same (map_in_place f xs ys i d in_xs in_ys so_far)

-- inserting at the client's place keeps the order of the clients
pub insert-add_mark : (k : Mark) (marks : List Mark) → insert marks (place_of k.client marks) k ≡ add_mark k marks
insert-add_mark k [] = refl
insert-add_mark k (x ∷ xs) =
    elim (cases_Bool (nat_lt x.client.0 k.client.0)) [
      | inl below ↦
          let n = prefix_len (λ (y : Mark). nat_lt y.client.0 k.client.0) xs in
          let more : 1 + n ≡ suc n = omega arith in
          rw (below, more) (ap (λ (ys : List Mark). x ∷ ys) (insert-add_mark k xs))
      | inr above ↦ rw above refl
    ]

-- ---- look-up

-- a mark that is found is its client's
pub mark_of-client : (c : ClientId) (marks : List Mark) (k : Mark) → mark_of c marks ≡ Some k → k.client ≡ c
mark_of-client c marks k found = client_from_same k.client c (find_passes (λ x. same_client x.client c) marks k found)

pub mark_of-set_mark_own : (k old : Mark) (marks : List Mark) → mark_of k.client marks ≡ Some old → mark_of k.client (set_mark k marks) ≡ Some k
mark_of-set_mark_own k old [] found = absurd (none-some _ found)
mark_of-set_mark_own k old (x ∷ xs) found =
    elim (cases_Bool (same_client x.client k.client)) [
      | inl same ↦ rw (same, same_client-refl k.client) refl
      | inr other ↦ rw (other, other) (mark_of-set_mark_own k old xs (rw other at found))
    ]

pub mark_of-set_mark_other : (c : ClientId) (k : Mark) (marks : List Mark) → same_client c k.client ≡ false → mark_of c (set_mark k marks) ≡ mark_of c marks
mark_of-set_mark_other c k [] apart = refl
mark_of-set_mark_other c k (x ∷ xs) apart =
    elim (cases_Bool (same_client x.client k.client)) [
      | inl same ↦
          let none_k : same_client k.client c ≡ false = grind (arith, nat_tests) in
          let none_x : same_client x.client c ≡ false = grind (arith, nat_tests) in
          rw (same, none_k, none_x) (mark_of-set_mark_other c k xs apart)
      | inr other ↦
          rw other
          (elim (same_client x.client c) as (λ b. cond b (Some x) (mark_of c (set_mark k xs)) ≡ cond b (Some x) (mark_of c xs)) [
            | true ↦ refl
            | false ↦ mark_of-set_mark_other c k xs apart
          ])
    ]

pub mark_of-add_mark_own : (k : Mark) (marks : List Mark) → mark_of k.client marks ≡ None → mark_of k.client (add_mark k marks) ≡ Some k
mark_of-add_mark_own k [] none = rw (same_client-refl k.client) refl
mark_of-add_mark_own k (x ∷ xs) none =
    elim (cases_Bool (same_client x.client k.client)) [
      | inl same ↦ absurd (none-some _ (sym (rw same at none)))
      | inr other ↦
          elim (nat_lt x.client.0 k.client.0) as (λ b. mark_of k.client (cond b (x ∷ add_mark k xs) (k ∷ x ∷ xs)) ≡ Some k) [
            | true ↦ rw other (mark_of-add_mark_own k xs (rw other at none))
            | false ↦ rw (same_client-refl k.client) refl
          ]
    ]

pub mark_of-add_mark_other : (c : ClientId) (k : Mark) (marks : List Mark) → same_client k.client c ≡ false → mark_of c (add_mark k marks) ≡ mark_of c marks
mark_of-add_mark_other c k [] apart = rw apart refl
mark_of-add_mark_other c k (x ∷ xs) apart =
    elim (nat_lt x.client.0 k.client.0) as (λ b. mark_of c (cond b (x ∷ add_mark k xs) (k ∷ x ∷ xs)) ≡ mark_of c (x ∷ xs)) [
      | true ↦
          elim (same_client x.client c) as (λ b. cond b (Some x) (mark_of c (add_mark k xs)) ≡ cond b (Some x) (mark_of c xs)) [
            | true ↦ refl
            | false ↦ mark_of-add_mark_other c k xs apart
          ]
      | false ↦ rw apart refl
    ]

-- ---- lengths and order

pub length-set_mark : (k : Mark) (marks : List Mark) → length (set_mark k marks) ≡ length marks
length-set_mark k marks = length-map marks (newer_mark k)

pub length-add_mark : (k : Mark) (marks : List Mark) → length (add_mark k marks) ≡ length marks + 1
length-add_mark k [] = refl
length-add_mark k (x ∷ xs) =
    let more = length-add_mark k xs in
    elim (nat_lt x.client.0 k.client.0) as (λ b. length (cond b (x ∷ add_mark k xs) (k ∷ x ∷ xs)) ≡ length (x ∷ xs) + 1) [
      | true ↦ omega arith
      | false ↦ omega arith
    ]

pub IsAscending-set_mark : (k : Mark) (marks : List Mark) → IsAscending marks → IsAscending (set_mark k marks)
IsAscending-set_mark k [] up = tt
IsAscending-set_mark k (x ∷ []) up = tt
IsAscending-set_mark k (x ∷ y ∷ ys) up =
    (rw (newer_mark-client k x, newer_mark-client k y) up.0, IsAscending-set_mark k (y ∷ ys) up.1)

above-add_mark : (k x : Mark) (marks : List Mark) → x.client.0 < k.client.0 → mark_of k.client marks ≡ None → IsAscending (x ∷ marks)
    → IsAscending (x ∷ add_mark k marks)
above-add_mark k x [] lt none up = (lt, tt)
above-add_mark k x (y ∷ ys) lt none up =
    elim (cases_Bool (same_client y.client k.client)) [
      | inl same ↦ absurd (none-some _ (sym (rw same at none)))
      | inr other ↦
          elim (cases_Bool (nat_lt y.client.0 k.client.0)) [
            | inl below ↦
                let y_below : y.client.0 < k.client.0 = grind (arith, nat_tests) in
                rw below (up.0, above-add_mark k y ys y_below (rw other at none) up.1)
            | inr above ↦
                let k_below : k.client.0 < y.client.0 = grind (arith, nat_tests) in
                rw above (lt, (k_below, up.1))
          ]
    ]

pub IsAscending-add_mark : (k : Mark) (marks : List Mark) → mark_of k.client marks ≡ None → IsAscending marks → IsAscending (add_mark k marks)
IsAscending-add_mark k [] none up = tt
IsAscending-add_mark k (x ∷ xs) none up =
    elim (cases_Bool (same_client x.client k.client)) [
      | inl same ↦ absurd (none-some _ (sym (rw same at none)))
      | inr other ↦
          elim (cases_Bool (nat_lt x.client.0 k.client.0)) [
            | inl below ↦
                let x_below : x.client.0 < k.client.0 = grind (arith, nat_tests) in
                rw below (above-add_mark k x xs x_below (rw other at none) up)
            | inr above ↦
                let k_below : k.client.0 < x.client.0 = grind (arith, nat_tests) in
                rw above (k_below, up)
          ]
    ]

-- ---- facts of each mark

pub All-mark_of : (P : Mark → Type 0) (c : ClientId) (marks : List Mark) (k : Mark) → AllByRecursion P marks → mark_of c marks ≡ Some k → P k
All-mark_of P c marks k all found = all_found P (λ x. same_client x.client c) marks k all found

pub All-set_mark : (P Q : Mark → Type 0) (k : Mark) (marks : List Mark) → Q k → ((x : Mark) → same_client x.client k.client ≡ false → P x → Q x)
    → AllByRecursion P marks → AllByRecursion Q (set_mark k marks)
All-set_mark P Q k [] own others all = tt
All-set_mark P Q k (x ∷ xs) own others all = (
  elim (same_client x.client k.client) as (λ b. same_client x.client k.client ≡ b → Q (cond b k x)) [
    | true ↦ λ same. own
    | false ↦ λ apart. others x apart all.0
  ] refl,
  All-set_mark P Q k xs own others all.1,
)

pub All-add_mark : (P Q : Mark → Type 0) (k : Mark) (marks : List Mark) → Q k → ((x : Mark) → P x → Q x) → AllByRecursion P marks
    → AllByRecursion Q (add_mark k marks)
All-add_mark P Q k [] own others all = (own, tt)
All-add_mark P Q k (x ∷ xs) own others all =
    elim (nat_lt x.client.0 k.client.0) as (λ b. AllByRecursion Q (cond b (x ∷ add_mark k xs) (k ∷ x ∷ xs))) [
      | true ↦ (others x all.0, All-add_mark P Q k xs own others all.1)
      | false ↦ (own, (others x all.0, All-weaker P Q xs others all.1))
    ] where
      All-weaker : (P Q : Mark → Type 0) (marks : List Mark) → ((x : Mark) → P x → Q x) → AllByRecursion P marks → AllByRecursion Q marks
      All-weaker P Q [] others all = tt
      All-weaker P Q (x ∷ xs) others all = (others x all.0, All-weaker P Q xs others all.1)

pub IsAscending-single : (marks : List Mark) → length marks < 2 → IsAscending marks
IsAscending-single [] few = tt
IsAscending-single (k ∷ []) few = tt
IsAscending-single (k ∷ x ∷ xs) few = let none : ⊥ = omega (arith, few) in absurd none
