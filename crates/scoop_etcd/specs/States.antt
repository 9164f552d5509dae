-- The states of handlers in an etcd.
use Rattle.std.specs.Prelude.{◌≡◌, ℕ, ◌^◌, nat_lt, List, map, Option, Some, None, unwrap_or, if◌then◌else◌}
use Rattle.std.specs.List.{AllByRecursion}
use Rattle.std.specs.Map.{lookup}
use Rattle.std.specs.BTreeMap.{is_at}
use Rattle.std.specs.Ordering.{nat_cmp}
use Rattle.scoop_handler.specs.State.{HandlerState}
use Rattle.scoop_keeper.specs.Keeper.{Stored, Missing, Holds, Damaged}
use Rattle.scoop_record.specs.Image.{image, pending_row}
use Rattle.scoop_record.specs.Reading.{IsStored}
use Rattle.scoop_etcd.specs.Etcd.{Bytes, Condition, HasRevision, Contents, Puts, SameKeys, revision_of}
use Rattle.scoop_etcd.specs.Keys.{handler_key}
use Rattle.scoop_etcd.specs.Owning.{StoreKeys, Owns, value_under}
use Rattle.scoop_etcd.specs.Packed.{IsPacked, packed}

-- the value is that of this state of the handler
pub record IsStateOf (handler : ℕ) (value : Bytes) (s : HandlerState) : Type 0 where
  pub number : s.number.0 ≡ handler
  pub image : Bytes
  pub entries : Bytes
  pub packed : IsPacked value image entries
  pub stored : IsStored s.number image entries s

-- the handler's contents in the value under its key
unfoldable pub Has : ℕ → Option Bytes → Stored → Type 0
Has handler None v = v ≡ Missing
Has handler (Some value) Missing = ⊥
Has handler (Some value) (Holds s) = IsStateOf handler value s
Has handler (Some value) Damaged = (s : HandlerState) → IsStateOf handler value s → ⊥

-- the value under the key of a handler
abbrev pub state_value : Bytes → Contents → ℕ → Option Bytes
state_value name c handler = if nat_lt handler (2 ^ 32) then value_under c (handler_key name handler) else None

abbrev pub handlers_in : Bytes → Contents → ℕ → Stored → Type 0
handlers_in name c handler = Has handler (state_value name c handler)

-- ---- commits

abbrev pub state_bytes : HandlerState → Bytes
state_bytes s = packed (image s) (pending_row s)

-- the state's key with its value
abbrev pub state_entry : Bytes → HandlerState → Bytes × Bytes
state_entry name s = (handler_key name s.number.0, state_bytes s)

-- the value is one that the state is read from
abbrev pub IsWritable : HandlerState → Type 0
IsWritable s = IsStateOf s.number.0 (state_bytes s) s

-- the revision of a handler's key that a store knows, 0 if it knows none
abbrev pub known_revision : List (ℕ × ℕ) → ℕ → ℕ
known_revision revisions handler = unwrap_or (lookup (is_at (nat_cmp handler)) revisions) 0

abbrev pub state_condition : Bytes → List (ℕ × ℕ) → HandlerState → Condition
state_condition name revisions s = HasRevision (handler_key name s.number.0) (known_revision revisions s.number.0)

-- The states were put in one step. The store still owned the record, and each key stood at its known revision.
pub record Commits (IsAlone : Type 0) (old new : Contents) (keys : StoreKeys) (revisions : List (ℕ × ℕ)) (states : List HandlerState) : Type 0 where
  pub met : Contents
  pub own : IsAlone → SameKeys old met
  pub owns : Owns met keys
  pub stood : AllByRecursion (λ s. revision_of (met.under (handler_key keys.name s.number.0)) ≡ known_revision revisions s.number.0) states
  pub writable : AllByRecursion IsWritable states
  pub puts : Puts met new (map (state_entry keys.name) states)
