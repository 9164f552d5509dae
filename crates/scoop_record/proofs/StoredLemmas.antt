-- The contents of a handler's two rows, each case the only one.
use Rattle.std.proofs.Common.{◌≡◌, ◌≢◌, ℕ, ℤ, List, Option, Some, None, refl, sym, ap, ◌∙◌, subst}
use Rattle.sqlite_value.specs.declared.value.Value.{Value}
use Rattle.sqlite_value.specs.declared.value.Value.TheVariants.{Null, Int, Real, Text, Blob}
use Rattle.scoop_message.specs.declared.name.HandlerId.{HandlerId}
use Rattle.scoop_handler.specs.State.{HandlerState}
use Rattle.scoop_images.specs.Reading.{IsStored}
use Rattle.scoop_keeper.specs.Keeper.{Stored, Missing, Holds, Damaged, IsTheOne}
use Rattle.scoop_record.specs.Store.{Has, AreRowsOf, number_of}

pub same_id : (a b : HandlerId) → a.0 ≡ b.0 → a ≡ b
same_id a b e = ap (λ n. record { 0 = n }) e

pub missing_there : (handler : ℕ) (first second : Option Value) → first ≡ None → Has handler first second Missing
unfolding Has
missing_there handler first second is = is

pub missing_one : (handler : ℕ) (first second : Option Value) → first ≡ None → IsTheOne (Has handler first second) Missing
unfolding Has
missing_one handler first second is = record { there = is; only = only }
  where
    only : (other : Stored) → Has handler first second other → other ≡ Missing
    only Missing h = refl
    only (Holds s) h = absurd (let e = sym is ∙ h.there in cc)
    only Damaged h = absurd (h.some is)

pub damaged_one : (handler : ℕ) (first second : Option Value) → first ≢ None → ((s : HandlerState) → AreRowsOf handler first second s → ⊥)
    → IsTheOne (Has handler first second) Damaged
unfolding Has
damaged_one handler first second some none = record { there = record { some = some; none = none }; only = only }
  where
    only : (other : Stored) → Has handler first second other → other ≡ Damaged
    only Missing h = absurd (some h)
    only (Holds s) h = absurd (none s h)
    only Damaged h = refl

-- a state in the rows is one whose image and entries these bytes are
stored_there : (handler : HandlerId) (bytes row : List ℕ) (first second : Option Value) → first ≡ Some (Blob bytes) → second ≡ Some (Blob row)
    → (s : HandlerState) → AreRowsOf handler.0 first second s → IsStored handler bytes row s
stored_there handler bytes row first second one two s h =
    let e = sym h.there ∙ one in
    let f = sym h.beside ∙ two in
    let same : h.bytes ≡ bytes = cc in
    let also : h.row ≡ row = cc in
    let id : s.number ≡ handler = same_id s.number handler h.number in
    subst (λ r. IsStored handler bytes r s) also (subst (λ b. IsStored handler b h.row s) same (subst (λ n. IsStored n h.bytes h.row s) id h.stored))

pub held_one : (handler : HandlerId) (bytes row : List ℕ) (s : HandlerState) → IsStored handler bytes row s
    → ((t : HandlerState) → IsStored handler bytes row t → t ≡ s) → (first second : Option Value) → first ≡ Some (Blob bytes) → second ≡ Some (Blob row)
    → IsTheOne (Has handler.0 first second) (Holds s)
unfolding Has
held_one handler bytes row s stored unique first second one two = record {
  there = record {
    number = ap (λ (n : HandlerId). n.0) stored.number;
    bytes = bytes;
    row = row;
    there = one;
    beside = two;
    stored =
        subst (λ n. IsStored n bytes row s) (sym stored.number) stored;
  };
  only = only;
}
  where
    only : (other : Stored) → Has handler.0 first second other → other ≡ Holds s
    only Missing h = absurd (let e = sym h ∙ one in cc)
    only (Holds t) h = ap Holds (unique t (stored_there handler bytes row first second one two t h))
    only Damaged h = absurd (h.none s (record {
      number = ap (λ (n : HandlerId). n.0) stored.number;
      bytes = bytes;
      row = row;
      there = one;
      beside = two;
      stored = subst (λ n. IsStored n bytes row s) (sym stored.number) stored;
    }))

pub none_there : (handler : HandlerId) (bytes row : List ℕ) → ((t : HandlerState) → IsStored handler bytes row t → ⊥) → (first second : Option Value)
    → first ≡ Some (Blob bytes) → second ≡ Some (Blob row) → IsTheOne (Has handler.0 first second) Damaged
none_there handler bytes row none first second one two =
    damaged_one handler.0 first second (λ e. absurd (let f = sym e ∙ one in cc)) (λ s h. none s (stored_there handler bytes row first second one two s h))

-- an image without pending entries is no state's
pub lone : (handler : ℕ) (bytes : List ℕ) (first second : Option Value) → first ≡ Some (Blob bytes) → second ≡ None
    → IsTheOne (Has handler first second) Damaged
lone handler bytes first second one two = damaged_one handler first second (λ e. absurd (let f = sym e ∙ one in cc))
    (λ s h. absurd (let f = sym two ∙ h.beside in cc))

-- the version of a database is the value that stands there
pub version_stands : (v : Option Value) (n : ℤ) → Some n ≡ number_of v → v ≡ Some (Int n)
version_stands None n e = absurd cc
version_stands (Some Null) n e = absurd cc
version_stands (Some (Int m)) n e = let same : n ≡ m = cc in ap (λ k. Some (Int k)) (sym same)
version_stands (Some (Real x)) n e = absurd cc
version_stands (Some (Text t)) n e = absurd cc
version_stands (Some (Blob b)) n e = absurd cc
