-- The parties of a script, as far as they are kept, and their world.
use Rattle.std.specs.Prelude.{◌≡◌, ℕ, ◌+◌, Bool, true, false, List, [], ◌++◌, map, take, Option}
use Rattle.std.specs.List.{cons_option}
use Rattle.scoop_message.specs.declared.limits.TheConstants.{MAX_CLIENTS, MAX_HANDLERS}
use Rattle.scoop_message.specs.declared.name.ClientId.{ClientId}
use Rattle.scoop_object.specs.Class.{ClassTable}
use Rattle.scoop_world.specs.declared.placing.Placement.{Placement}
use Rattle.scoop_demo.specs.ScriptLine.{Placed}
use Rattle.scoop_demo.specs.Script.{Parties, Opens, placement_of, placed_by, joined_by}

-- the handler as it is placed, its object seen as the object's class
abbrev pub seen_by : {B : Type 0} → (B → ClassTable) → Placement B → Placement ClassTable
seen_by class p = record { node = p.node; handler = p.handler; class = p.class; object = class p.object }

-- the handlers that are kept: the first ones, up to one more than a world may have
abbrev pub AreFirst : {B : Type 0} → (B → ClassTable) → List (Placement B) → List Placed → Type 0
AreFirst class kept placed = map (seen_by class) kept ≡ take (MAX_HANDLERS + 1) (map placement_of placed)

-- the clients that are kept, in the same way
abbrev pub AreFirstClients : List (ClientId × ℕ) → List (ClientId × ℕ) → Type 0
AreFirstClients kept clients = kept ≡ take (MAX_CLIENTS + 1) clients

-- a cast before its world opens stands for these parties over these stored incarnations
pub record IsWaiting {B : Type 0} (class : B → ClassTable) (kept : List (Placement B)) (clients : List (ClientId × ℕ)) (own : ℕ → Option ℕ) (parties : Parties)
    (stored : ℕ → Option ℕ) : Type 0 where
  pub placed : AreFirst class kept parties.placed
  pub joined : AreFirstClients clients parties.clients
  pub stored_is : own ≡ stored

-- the same of any cast: a world that has opened opens with these parties
abbrev pub IsStaged : {B : Type 0} → (B → ClassTable) → (opened : Bool) → List (Placement B) → List (ClientId × ℕ) → (ℕ → Option ℕ) → Parties → (ℕ → Option ℕ)
    → Type 0
IsStaged class false kept clients own parties stored = IsWaiting class kept clients own parties stored
IsStaged class true kept clients own parties stored = Opens parties stored

-- the parties with those that one line more names
abbrev pub with_line : Parties → List ℕ → Parties
with_line parties line = record { placed = parties.placed ++ cons_option (placed_by line) []; clients = parties.clients ++ cons_option (joined_by line) [] }
