-- Computed examples of a small etcd: what a transaction puts, what it leaves as it is, and what a range finds.
use Rattle.std.specs.Prelude.{◌≡◌, ℕ, Bool, true, false, if◌then◌else◌, List, [], ◌∷◌, map, codes, Option, Some, None, option_map, bytes_eq, ⊤}
use Rattle.scoop_etcd_calls.specs.declared.calls.Pair.{Pair}
use Rattle.scoop_etcd_calls.specs.declared.calls.Range.{Range}
use Rattle.scoop_etcd_calls.specs.declared.calls.Found.{Found}
use Rattle.scoop_etcd_calls.specs.declared.calls.Txn.{Txn}
use Rattle.scoop_etcd_calls.specs.declared.calls.Outcome.{Outcome}
use Rattle.scoop_etcd.specs.Etcd.{Bytes, Kept, kept, Contents, contents, Condition, HasValue, HasRevision, SameKeys, conditions_of, entries_of, key_of, kept_of, Holds, Transacts, Answers, Finds}

-- these contents, with a value under this key that was put at this revision
abbrev pub with_key : Bytes → Bytes → ℕ → (Bytes → Option Kept) → Bytes → Option Kept
with_key key value revision under asked = if bytes_eq asked key then Some (kept value revision) else under asked

-- two keys of one prefix, and the key just after all that have it
abbrev pub one : Bytes
one = codes "h/1"

abbrev pub two : Bytes
two = codes "h/2"

abbrev pub end : Bytes
end = codes "h0"

-- the last key stands alone, put at revision 4
abbrev pub rest : Bytes → Option Kept
rest = with_key end (codes "t") 4 (λ _. None)

-- At revision 4 the first key stands too, put at 3.
abbrev pub before : Contents
before = contents 4 (with_key one (codes "x") 3 rest)

-- At revision 5 both keys of the prefix have new values.
abbrev pub after : Contents
after = contents 5 (with_key one (codes "y") 5 (with_key two (codes "z") 5 rest))

-- The same with one of the two values alone.
abbrev pub half : Contents
half = contents 5 (with_key one (codes "y") 5 rest)

abbrev pub empty : Contents
empty = contents 1 (λ _. None)

-- conditions that hold before, and conditions of which the second doesn't
abbrev pub met : List Condition
met = HasRevision one 3 ∷ HasRevision two 0 ∷ HasValue end (codes "t") ∷ []

abbrev pub unmet : List Condition
unmet = HasRevision one 3 ∷ HasRevision end 0 ∷ []

-- both keys with their new values
abbrev pub both : List (Bytes × Bytes)
both = (one, codes "y") ∷ (two, codes "z") ∷ []

-- The transaction has these conditions, and puts both values.
abbrev pub PutsBothIf : Txn → List Condition → Type 0
PutsBothIf txn conditions = (conditions_of txn ≡ conditions) × (entries_of txn ≡ both)

abbrev pub outcome : Bool → ℕ → Outcome
outcome succeeded revision = record { succeeded = succeeded; revision = revision }

-- Both values are put, and the revision rises by one. It is refused that nothing changes, that one value alone is put, and
-- that the transaction fails.
pub record BothArePut : Type 0 where
  pub puts : (txn : Txn) → PutsBothIf txn met → Transacts before after txn (outcome true 5)
  pub not_idle : (txn : Txn) → PutsBothIf txn met → Transacts before before txn (outcome true 4) → ⊥
  pub not_half : (txn : Txn) → PutsBothIf txn met → Transacts before half txn (outcome true 5) → ⊥
  pub not_failed : (txn : Txn) (new : Contents) (revision : ℕ) → PutsBothIf txn met → Transacts before new txn (outcome false revision) → ⊥

-- Nothing changes. It is refused that the transaction succeeds, and that it fails and puts the values.
pub record NothingIsPut : Type 0 where
  pub stays : (txn : Txn) → PutsBothIf txn unmet → Transacts before before txn (outcome false 4)
  pub not_made : (txn : Txn) (new : Contents) (revision : ℕ) → PutsBothIf txn unmet → Transacts before new txn (outcome true revision) → ⊥
  pub not_put : (txn : Txn) (revision : ℕ) → PutsBothIf txn unmet → Transacts before after txn (outcome false revision) → ⊥

-- Revision 0 is that of an absent key alone, and an absent key has no value, not even the empty one.
pub record AbsentKeys : Type 0 where
  pub absent : Holds before (HasRevision two 0)
  pub not_there : Holds before (HasRevision one 0) → ⊥
  pub no_value : Holds before (HasValue two []) → ⊥

-- A caller that isn't alone may find what others wrote. One that is alone finds what stood under its keys, also at a higher
-- revision.
pub record OthersWrite : Type 0 where
  pub others : (txn : Txn) → PutsBothIf txn met → Answers ⊥ empty after txn (outcome true 5)
  pub alone : (txn : Txn) → PutsBothIf txn met → Answers ⊤ before after txn (outcome true 5)
  pub raised : (txn : Txn) → PutsBothIf txn met → Answers ⊤ (contents 3 before.under) after txn (outcome true 5)
  pub not_alone : (txn : Txn) → PutsBothIf txn met → Answers ⊤ empty after txn (outcome true 5) → ⊥

-- a caller's view that writes and asks for this key alone: other keys stand as they first did
abbrev pub seen : Bytes → Contents → Contents → Contents
seen key first now = contents now.revision (λ asked. if bytes_eq asked key then now.under asked else first.under asked)

-- after a put under the last key, and after one under the first key
abbrev pub last_put : Contents
last_put = contents 5 (with_key end (codes "u") 5 before.under)

abbrev pub first_put : Contents
first_put = contents 5 (with_key one (codes "y") 5 before.under)

-- Two callers have a key each. The put under the last key raises the revision, and leaves the caller of the first key alone.
-- A put of another under the first key doesn't.
pub record TwoCallers : Type 0 where
  pub raised : (seen one before last_put).revision ≡ 5
  pub alone : SameKeys (seen one before before) (seen one before last_put)
  pub not_alone : SameKeys (seen one before before) (seen one before first_put) → ⊥

-- the range over all keys that begin with `h/`
abbrev pub IsPrefix : Range → Type 0
IsPrefix range = (range.from.items ≡ codes "h/") × (option_map (λ v. v.items) range.to ≡ Some end)

abbrev pub pair_of : Pair → Bytes × Kept
pair_of pair = (key_of pair, kept_of pair)

abbrev pub AreFound : Found → List (Bytes × Kept) → Type 0
AreFound found pairs = (found.revision ≡ 5) × (map pair_of found.pairs.items ≡ pairs)

abbrev pub first : Bytes × Kept
first = (one, kept (codes "y") 5)

abbrev pub second : Bytes × Kept
second = (two, kept (codes "z") 5)

abbrev pub third : Bytes × Kept
third = (end, kept (codes "t") 4)

-- The range finds the two keys, by ascending keys. Refused are one alone, both in the other order, the key after them, and
-- another value.
pub record BothAreFound : Type 0 where
  pub finds : (range : Range) (found : Found) → IsPrefix range → AreFound found (first ∷ second ∷ []) → Finds after range found
  pub not_one : (range : Range) (found : Found) → IsPrefix range → AreFound found (first ∷ []) → Finds after range found → ⊥
  pub not_turned : (range : Range) (found : Found) → IsPrefix range → AreFound found (second ∷ first ∷ []) → Finds after range found → ⊥
  pub not_more : (range : Range) (found : Found) → IsPrefix range → AreFound found (first ∷ second ∷ third ∷ []) → Finds after range found → ⊥
  pub not_other : (range : Range) (found : Found) → IsPrefix range → AreFound found (first ∷ (two, kept (codes "x") 5) ∷ []) → Finds after range found → ⊥
