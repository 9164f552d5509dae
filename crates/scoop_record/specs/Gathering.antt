-- States that are kept in memory until they are stored together.
use Rattle.std.specs.Prelude.{◌≡◌, ◌==◌, ℕ, Bool, List, [], ◌∷◌, ◌++◌, map, find, Option, Some, None, if◌then◌else◌}
use Rattle.std.specs.Option.{option_or}
use Rattle.sqlite.specs.Held.{Held}
use Rattle.scoop_message.specs.Lists.{NoRepeats}
use Rattle.scoop_message.specs.declared.name.HandlerId.{HandlerId}
use Rattle.scoop_handler.specs.State.{HandlerState}
use Rattle.scoop_keeper.specs.Keeper.{Stored, Holds}

-- the last of the states of a handler
abbrev pub last_of : ℕ → List HandlerState → Option HandlerState
last_of handler [] = None
last_of handler (s ∷ more) = option_or (last_of handler more) (if s.number.0 == handler then Some s else None)

abbrev pub OverOne : Option HandlerState → Type 0 → Stored → Type 0
OverOne None below v = below
OverOne (Some s) below v = v ≡ Holds s

-- the contents for each handler after these states are put in turn
abbrev pub Over : List HandlerState → (ℕ → Stored → Type 0) → ℕ → Stored → Type 0
Over states below handler v = OverOne (last_of handler states) (below handler v) v

-- the state is of the handler
abbrev pub is_of : HandlerId → HandlerState → Bool
is_of handler s = s.number.0 == handler.0

-- a state waits in the place of its handler's earlier one, or as the last
abbrev pub GathersAt : Option HandlerState → (old new : List HandlerState) → HandlerState → Type 0
GathersAt None old new s = new ≡ old ++ s ∷ []
GathersAt (Some earlier) old new s = new ≡ map (λ x. if is_of s.number x then s else x) old

abbrev pub Gathers : (old new : List HandlerState) → HandlerState → Type 0
Gathers old new s = GathersAt (find (is_of s.number) old) old new s

-- no two states are of one handler
abbrev pub AreOfOthers : List HandlerState → Type 0
AreOfOthers states = NoRepeats (map (λ s. s.number.0) states)

-- the store, and the states that were put since the last commit
pub record GatheringRecord (S : Type 0) : Type 0 where
  pub store : Held S
  pub pending : List HandlerState

abbrev pub gathering : {S : Type 0} → Held S → List HandlerState → GatheringRecord S
gathering store pending = record { store = store; pending = pending }
