-- States that wait for a commit, each in the place of its handler's earlier one.
use Rattle.std.proofs.Common.{◌≡◌, ◌==◌, ℕ, zero, suc, true, false, true≢false, List, [], ◌∷◌, ◌++◌, map, find, set, get_or, slice_get, Option, Some, None}
use Rattle.std.proofs.Common.{refl, sym, ap, ◌∙◌, subst, arith, Result, Ok, Err, IfOk, OnOk, OnErr}
use Rattle.std.specs.Prelude.{if◌then◌else◌}
use Rattle.std.specs.Option.{option_or}
use Rattle.std.specs.List.{AllByRecursion}
use Rattle.std.proofs.lemmas.Bool.Decides.{Decides-eqb}
use Rattle.scoop_message.specs.declared.name.HandlerId.{HandlerId}
use Rattle.scoop_message.specs.Lists.{NoRepeats}
use Rattle.scoop_handler.specs.State.{HandlerState}
use Rattle.scoop_handler.proofs.Basics.{by_test, find_passes}
use Rattle.scoop_handler.proofs.Once.{once_more}
use Rattle.scoop_keeper.specs.Keyed.{IsFirst}
use Rattle.scoop_keeper.specs.Keeper.{Stored, Holds, IsTheOne, Keeps, stored_of}
use Rattle.scoop_keeper.proofs.Keyed.{item_at, key_at, set_newer, some_at}
use Rattle.scoop_record.specs.Gathering.{AreOfOthers, Gathers, GathersAt, Over, is_of, last_of}
use Rattle.scoop_record.proofs.StoredLemmas.{same_id}

abbrev number : HandlerState → ℕ
number s = s.number.0

-- ---- the last state of a handler, if none has two

or_none : (o : Option HandlerState) → option_or o None ≡ o
or_none None = refl
or_none (Some s) = refl

none_last : (handler : ℕ) (xs : List HandlerState) → ((k : ℕ) → slice_get (map number xs) k ≡ Some handler → ⊥) → last_of handler xs ≡ None
none_last handler [] none = refl
none_last handler (x ∷ xs) none =
    rw (none_last handler xs (λ k e. none (suc k) e)) (by_test (λ t. x.number.0 == handler ≡ t → (if t then Some x else None) ≡ None) (x.number.0 == handler)
    (λ _ is. absurd (none zero (ap Some ((Decides-eqb x.number.0 handler).0 is)))) (λ _ is. refl) refl)

pub last_found : (handler : HandlerId) (xs : List HandlerState) → AreOfOthers xs → last_of handler.0 xs ≡ find (is_of handler) xs
last_found handler [] apart = refl
last_found handler (x ∷ xs) apart =
    by_test
    (λ t. x.number.0 == handler.0 ≡ t → option_or (last_of handler.0 xs) (if t then Some x else None) ≡ (if t then Some x else find (is_of handler) xs))
    (x.number.0 == handler.0)
    (λ _ is. ap (λ o. option_or o (Some x)) (none_last handler.0 xs (λ k e. absurd (let zs = apart zero (suc k) handler.0
    (ap Some ((Decides-eqb x.number.0 handler.0).0 is)) e in omega (arith, zs)))))
    (λ _ is. or_none (last_of handler.0 xs) ∙ last_found handler xs (λ i j y p q. let e = apart (suc i) (suc j) y p q in omega (arith, e))) refl

-- ---- a state that waits

abbrev newer : HandlerState → HandlerState → HandlerState
newer s x = if is_of s.number x then s else x

last_pushed : (handler : ℕ) (xs : List HandlerState) (s : HandlerState)
    → last_of handler (xs ++ s ∷ []) ≡ (if s.number.0 == handler then Some s else last_of handler xs)
last_pushed handler [] s = refl
last_pushed handler (x ∷ xs) s =
    rw (last_pushed handler xs s) (by_test (λ t. option_or (if t then Some s else last_of handler xs) (if x.number.0 == handler then Some x else None)
    ≡ (if t then Some s else option_or (last_of handler xs) (if x.number.0 == handler then Some x else None)))
    (s.number.0 == handler) (λ _. refl) (λ _. refl))

-- another handler's last state stays
last_other : (handler : ℕ) (xs : List HandlerState) (s : HandlerState) → s.number.0 == handler ≡ false → last_of handler (map (newer s) xs) ≡ last_of handler xs
last_other handler [] s other = refl
last_other handler (x ∷ xs) s other =
    rw (last_other handler xs s other) (ap (option_or (last_of handler xs)) (by_test (λ t. x.number.0 == s.number.0 ≡ t
    → (if (if t then s else x).number.0 == handler then Some (if t then s else x) else None) ≡ (if x.number.0 == handler then Some x else None))
    (x.number.0 == s.number.0) (λ _ is. let e = (Decides-eqb x.number.0 s.number.0).0 is in rw (e, other) refl) (λ _ is. refl) refl))

-- and its own is found
own_found : (xs : List HandlerState) (s x : HandlerState) → find (is_of s.number) xs ≡ Some x → find (is_of s.number) (map (newer s) xs) ≡ Some s
own_found [] s x found = absurd cc
own_found (y ∷ xs) s x found =
    by_test (λ t. y.number.0 == s.number.0 ≡ t → (if t then Some y else find (is_of s.number) xs) ≡ Some x
    → (if (if t then s else y).number.0 == s.number.0 then Some (if t then s else y) else find (is_of s.number) (map (newer s) xs)) ≡ Some s)
    (y.number.0 == s.number.0) (λ _ is e. let own : s.number.0 == s.number.0 ≡ true = (Decides-eqb s.number.0 s.number.0).1 refl in rw own refl)
    (λ _ is e. rw is (own_found xs s x e)) refl found

keys_stay : (xs : List HandlerState) (s : HandlerState) → map number (map (newer s) xs) ≡ map number xs
keys_stay [] s = refl
keys_stay (x ∷ xs) s =
    rw (keys_stay xs s) (ap (λ n. n ∷ map number xs) (by_test (λ t. x.number.0 == s.number.0 ≡ t → (if t then s else x).number.0 ≡ x.number.0)
    (x.number.0 == s.number.0) (λ _ is. sym ((Decides-eqb x.number.0 s.number.0).0 is)) (λ _ is. refl) refl))

none_found : (handler : HandlerId) (xs : List HandlerState) → find (is_of handler) xs ≡ None → AllByRecursion (λ x. x.number.0 ≡ handler.0 → ⊥) xs
none_found handler [] none = tt
none_found handler (x ∷ xs) none =
    by_test (λ t. x.number.0 == handler.0 ≡ t → (if t then Some x else find (is_of handler) xs) ≡ None → AllByRecursion (λ y. y.number.0 ≡ handler.0 → ⊥) (x ∷ xs))
    (x.number.0 == handler.0) (λ _ is e. absurd cc)
    (λ _ is e. ((λ own. true≢false (sym ((Decides-eqb x.number.0 handler.0).1 own) ∙ is)), none_found handler xs e)) refl none

-- ---- what waits, once a state is gathered

pub gathers_apart : (old new : List HandlerState) (s : HandlerState) → AreOfOthers old → Gathers old new s → AreOfOthers new
gathers_apart old new s apart gathers = go (find (is_of s.number) old) refl gathers
  where
    go : (found : Option HandlerState) → find (is_of s.number) old ≡ found → GathersAt found old new s → AreOfOthers new
    go None none is = subst AreOfOthers (sym is) (once_more number old s apart (none_found s.number old none))
    go (Some x) some is = subst NoRepeats (sym (ap (map number) is ∙ keys_stay old s)) apart

pub gathers_apart_if : {E : Type 0} (r : Result (Unit {0}) E) (old new : List HandlerState) (s : HandlerState) → AreOfOthers old → OnOk r (Gathers old new s)
    → OnErr r (new ≡ old) → AreOfOthers new
gathers_apart_if (Ok _) old new s apart gathers same = gathers_apart old new s apart gathers
gathers_apart_if (Err _) old new s apart gathers same = subst AreOfOthers (sym same) apart

-- its handler has it, and each other one has what it had
pub gathered : (old new : List HandlerState) (s : HandlerState) → AreOfOthers old → Gathers old new s → (handler : ℕ)
    → last_of handler new ≡ (if s.number.0 == handler then Some s else last_of handler old)
gathered old new s apart gathers handler = go (find (is_of s.number) old) refl gathers
  where
    go : (found : Option HandlerState) → find (is_of s.number) old ≡ found → GathersAt found old new s
        → last_of handler new ≡ (if s.number.0 == handler then Some s else last_of handler old)
    go None none is = ap (last_of handler) is ∙ last_pushed handler old s
    go (Some x) some is =
        by_test (λ t. s.number.0 == handler ≡ t → last_of handler new ≡ (if t then Some s else last_of handler old)) (s.number.0 == handler)
        (λ _ own. subst (λ n. last_of n new ≡ Some s) ((Decides-eqb s.number.0 handler).0 own)
        (last_found s.number new (gathers_apart old new s apart gathers) ∙ ap (find (is_of s.number)) is ∙ own_found old s x some))
        (λ _ other. ap (last_of handler) is ∙ last_other handler old s other) refl

pub gathered_keeps : (old new : List HandlerState) (s : HandlerState) (below : ℕ → Stored → Type 0) → AreOfOthers old → Gathers old new s
    → Keeps (Over old below) (Over new below) s
gathered_keeps old new s below apart gathers =
    let it = gathered old new s apart gathers in
    record {
      there = let own : s.number.0 == s.number.0 ≡ true = (Decides-eqb s.number.0 s.number.0).1 refl in rw (it s.number.0, own) refl;
      others = λ other off v. let not_own : s.number.0 == other ≡ false = by_test (λ t. s.number.0 == other ≡ t → t ≡ false) (s.number.0 == other)
          (λ _ is. absurd (off (sym ((Decides-eqb s.number.0 other).0 is)))) (λ _ is. refl) refl in
          rw (it other, not_own) ((λ h. h), (λ h. h));
    }

-- ---- a write in place, and one at the end

pub gathers_there : (xs : List HandlerState) (i : ℕ) (s : HandlerState) → AreOfOthers xs → IsFirst (is_of s.number) xs i → Gathers xs (set xs i s) s
gathers_there xs i s apart first =
    let x = some_at xs i first.within in
    let found : find (is_of s.number) xs ≡ Some x.0 = first.found ∙ x.1 in
    let own : x.0.number.0 ≡ s.number.0 = (Decides-eqb x.0.number.0 s.number.0).0 (find_passes (is_of s.number) xs x.0 found) in
    rw found (set_newer number ◌==◌ Decides-eqb s xs i apart (key_at number ◌==◌ Decides-eqb xs i x.0 s x.1 (sym own)))

pub gathers_last : (xs : List HandlerState) (s : HandlerState) → find (is_of s.number) xs ≡ None → Gathers xs (xs ++ s ∷ []) s
gathers_last xs s none = rw none refl

pub gathers_if : {E : Type 0} (r : Result (Unit {0}) E) (xs ys : List HandlerState) (i : ℕ) (handler : HandlerId) (new s : HandlerState) → AreOfOthers xs
    → ys ≡ xs → handler ≡ s.number → IsFirst (is_of handler) ys i → OnOk r (new ≡ s) → OnOk r (Gathers xs (set xs i new) s)
gathers_if (Ok _) xs ys i handler new s apart same is first put =
    rw put (gathers_there xs i s apart (subst (λ h. IsFirst (is_of h) xs i) is (subst (λ zs. IsFirst (is_of handler) zs i) same first)))
gathers_if (Err _) xs ys i handler new s apart same is first put = tt

-- ---- what a keeper has over such states

-- for a handler with a state that waits, that state alone
pub waits_one : (xs : List HandlerState) (i : ℕ) (handler : HandlerId) (x : HandlerState) (below : ℕ → Stored → Type 0) → AreOfOthers xs
    → IsFirst (is_of handler) xs i → x ≡ get_or xs i x
    → (x.number ≡ handler) × IsTheOne (Over xs below handler.0) (Holds x)
waits_one xs i handler x below apart first is =
    let found : find (is_of handler) xs ≡ Some x = first.found ∙ item_at xs i x first.within is in
    let last : last_of handler.0 xs ≡ Some x = last_found handler xs apart ∙ found in (
      same_id x.number handler ((Decides-eqb x.number.0 handler.0).0 (find_passes (is_of handler) xs x found)),
      record { there = rw last refl; only = λ other is. rw last at is },
    )

-- for another one, what there is below
pub below_one : (xs : List HandlerState) (handler : HandlerId) (below : ℕ → Stored → Type 0) (v : Stored) → AreOfOthers xs → find (is_of handler) xs ≡ None
    → IsTheOne (below handler.0) v → IsTheOne (Over xs below handler.0) v
below_one xs handler below v apart none one =
    let last = last_found handler xs apart ∙ none in
    record { there = rw last one.there; only = λ other is. one.only other (rw last at is) }

pub below_if : {E : Type 0} (r : Result (Option HandlerState) E) (xs : List HandlerState) (handler : HandlerId) (below : ℕ → Stored → Type 0) → AreOfOthers xs
    → find (is_of handler) xs ≡ None → IfOk r (λ found. IsTheOne (below handler.0) (stored_of found))
    → IfOk r (λ found. IsTheOne (Over xs below handler.0) (stored_of found))
below_if (Ok found) xs handler below apart none one = below_one xs handler below (stored_of found) apart none one
below_if (Err e) xs handler below apart none one = tt
