-- The contents of a keeper in memory.
use Rattle.std.specs.Prelude.{◌≡◌, ℕ, List, Option, Some, if◌then◌else◌}
use Rattle.std.specs.Map.{lookup}
use Rattle.std.specs.BTreeMap.{is_at}
use Rattle.std.specs.Ordering.{nat_cmp}
use Rattle.scoop_handler.specs.State.{HandlerState}
use Rattle.scoop_keeper.specs.Keeper.{Stored, stored_of}

-- the stored states by handler, and the stored incarnations by client
pub record MemoryRecord : Type 0 where
  pub states : List (ℕ × HandlerState)
  pub incarnations : List (ℕ × ℕ)

abbrev pub memory_record : List (ℕ × HandlerState) → List (ℕ × ℕ) → MemoryRecord
memory_record states incarnations = record { states = states; incarnations = incarnations }

-- the state that is kept for a handler
abbrev pub state_at : MemoryRecord → ℕ → Option HandlerState
state_at r handler = lookup (is_at (nat_cmp handler)) r.states

-- the incarnation that is kept for a client
abbrev pub incarnation_at : MemoryRecord → ℕ → Option ℕ
incarnation_at r client = lookup (is_at (nat_cmp client)) r.incarnations

abbrev pub Has : MemoryRecord → ℕ → Stored → Type 0
Has r handler v = stored_of (state_at r handler) ≡ v

-- the new states have this one for its handler, and for the others what the old ones have
abbrev pub Puts : (old new : List (ℕ × HandlerState)) → HandlerState → Type 0
Puts old new s =
    (handler : ℕ) → lookup (is_at (nat_cmp handler)) new ≡ (if is_at (nat_cmp s.number.0) handler then Some s else lookup (is_at (nat_cmp handler)) old)
