-- The contents of an etcd, and what its calls find there and change.
use Rattle.std.specs.Prelude.{◌≡◌, ◌≢◌, ℕ, suc, Bool, true, false, List, [], ◌∷◌, map, Option, Some, None, option_map, IfSome, Contains}
use Rattle.std.specs.List.{AllByRecursion}
use Rattle.std.specs.List.Sorted.{IsStrictlySortedBy}
use Rattle.std.specs.Ordering.{nat_cmp}
use Rattle.std.specs.Cmp.Lexicographic.{slice_cmp}
use Rattle.std.specs.declared.cmp.Ordering.{Ordering}
use Rattle.std.specs.declared.cmp.Ordering.TheVariants.{Less, Greater}
use Rattle.scoop_etcd_calls.specs.declared.calls.Pair.{Pair}
use Rattle.scoop_etcd_calls.specs.declared.calls.Range.{Range}
use Rattle.scoop_etcd_calls.specs.declared.calls.Found.{Found}
use Rattle.scoop_etcd_calls.specs.declared.calls.Put.{Put}
use Rattle.scoop_etcd_calls.specs.declared.calls.Txn.{Txn}
use Rattle.scoop_etcd_calls.specs.declared.calls.Outcome.{Outcome}
use Rattle.scoop_etcd_calls.specs.declared.calls.Compare.{Compare}
use Rattle.scoop_etcd_calls.specs.declared.calls.Compare.TheVariants.{Value, Revision}

-- a key, or a value
abbrev pub Bytes : Type 0
Bytes = List ℕ

-- the value under a key, and the store's revision after its last put
pub record Kept : Type 0 where
  pub value : Bytes
  pub revision : ℕ

abbrev pub kept : Bytes → ℕ → Kept
kept value revision = record { value = value; revision = revision }

-- the store's revision, and what stands under each key
pub record Contents : Type 0 where
  pub revision : ℕ
  pub under : Bytes → Option Kept

abbrev pub contents : ℕ → (Bytes → Option Kept) → Contents
contents revision under = record { revision = revision; under = under }

-- The same stands under each key. The server's revision may differ: puts under any key of the server raise it.
abbrev pub SameKeys : Contents → Contents → Type 0
SameKeys old new = new.under ≡ old.under

abbrev pub value_of : Option Kept → Option Bytes
value_of found = option_map (λ k. k.value) found

-- the revision of the last put, 0 if there is nothing
abbrev pub revision_of : Option Kept → ℕ
revision_of None = 0
revision_of (Some k) = k.revision

-- ---- transactions

-- a condition on one key: this value stands there, or it was last put at this revision and is absent at 0
pub data Condition : Type 0 where
  HasValue : Bytes → Bytes → Condition
  HasRevision : Bytes → ℕ → Condition

abbrev pub condition_of : Compare → Condition
condition_of (Value key value) = HasValue key.items value.items
condition_of (Revision key revision) = HasRevision key.items revision

abbrev pub conditions_of : Txn → List Condition
conditions_of txn = map condition_of txn.compares.items

abbrev pub Holds : Contents → Condition → Type 0
Holds c (HasValue key value) = value_of (c.under key) ≡ Some value
Holds c (HasRevision key revision) = revision_of (c.under key) ≡ revision

-- a key with its new value
abbrev pub entry_of : Put → Bytes × Bytes
entry_of put = (put.key.items, put.value.items)

abbrev pub entries_of : Txn → List (Bytes × Bytes)
entries_of txn = map entry_of txn.puts.items

-- each put raises the store's revision, and no puts leave it
abbrev pub revision_after : ℕ → List (Bytes × Bytes) → ℕ
revision_after revision [] = revision
revision_after revision (_ ∷ _) = suc revision

-- all the entries stand in the new contents, put at their revision, and other keys are as they were
pub record Puts (old new : Contents) (entries : List (Bytes × Bytes)) : Type 0 where
  pub revision : new.revision ≡ revision_after old.revision entries
  pub there : AllByRecursion (λ e. new.under e.0 ≡ Some (kept e.1 new.revision)) entries
  pub others : (key : Bytes) → AllByRecursion (λ e. e.0 ≢ key) entries → new.under key ≡ old.under key

-- if all conditions hold, the entries are put, in one step. Otherwise nothing changes.
abbrev pub TransactsAs : (succeeded : Bool) → (old new : Contents) → List Condition → List (Bytes × Bytes) → Type 0
TransactsAs true old new conditions entries = AllByRecursion (Holds old) conditions × Puts old new entries
TransactsAs false old new conditions entries = (AllByRecursion (Holds old) conditions → ⊥) × (new ≡ old)

pub record Transacts (old new : Contents) (txn : Txn) (outcome : Outcome) : Type 0 where
  pub result : TransactsAs outcome.succeeded old new (conditions_of txn) (entries_of txn)
  pub revision : outcome.revision ≡ new.revision

-- The transaction met these contents. Others may have written the caller's keys before it, unless the caller is alone.
pub record Answers (IsAlone : Type 0) (old new : Contents) (txn : Txn) (outcome : Outcome) : Type 0 where
  pub met : Contents
  pub own : IsAlone → SameKeys old met
  pub transacts : Transacts met new txn outcome

-- ---- ranges

abbrev pub byte_order : Bytes → Bytes → Ordering
byte_order = slice_cmp nat_cmp

-- the key is `from`, or, if there is an end, none before `from` and one before the end
abbrev pub AsksFor : Bytes → Option Bytes → Bytes → Type 0
AsksFor from None key = key ≡ from
AsksFor from (Some to) key = (byte_order from key ≢ Greater) × (byte_order key to ≡ Less)

abbrev pub Asks : Range → Bytes → Type 0
Asks range key = AsksFor range.from.items (option_map (λ v. v.items) range.to) key

abbrev pub key_of : Pair → Bytes
key_of pair = pair.key.items

abbrev pub kept_of : Pair → Kept
kept_of pair = kept pair.value.items pair.revision

-- the range found these pairs: all that it asks for, by ascending keys
pub record Finds (c : Contents) (range : Range) (found : Found) : Type 0 where
  pub revision : found.revision ≡ c.revision
  pub own : AllByRecursion (λ pair. Asks range (key_of pair) × (c.under (key_of pair) ≡ Some (kept_of pair))) found.pairs.items
  pub all : (key : Bytes) → Asks range key → IfSome (c.under key) (λ k. Contains (map key_of found.pairs.items) key)
  pub ascending : IsStrictlySortedBy byte_order (map key_of found.pairs.items)
