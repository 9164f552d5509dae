-- The handlers of all nodes and the clients, each with its state and with what is stored of it, and nothing between them.
use Rattle.std.specs.Prelude.{◌≡◌, ℕ, ◌+◌, ◌==◌, Bool, if◌then◌else◌, List, map, find, Option, Some}
use Rattle.scoop_message.specs.declared.name.ClientId.{ClientId}
use Rattle.scoop_message.specs.declared.name.HandlerId.{HandlerId}
use Rattle.scoop_message.specs.Message.{same_handler, same_client}
use Rattle.scoop_handler.specs.State.{HandlerState, new_state}
use Rattle.scoop_handler.specs.Local.{LocalHandler, opening_state, opening_handler}
use Rattle.scoop_client.specs.State.{ClientState}
use Rattle.scoop_client.specs.Beginning.{greeting}
use Rattle.scoop_model.specs.Step.{Placement, Newcomer}

-- a handler with its node and the words with which its object was placed
pub record PlacedHandler : Type 0 where
  pub node : ℕ
  pub placed : List ℕ
  pub local : LocalHandler

-- a client and its stored incarnation
pub record LocalClient : Type 0 where
  pub client : ClientState
  pub stored : ℕ

pub record System : Type 0 where
  pub handlers : List PlacedHandler
  pub clients : List LocalClient

-- ---- by name

abbrev pub its_number : PlacedHandler → HandlerId
its_number s = s.local.core.state.number

abbrev pub is_placed : HandlerId → PlacedHandler → Bool
is_placed h s = same_handler (its_number s) h

abbrev pub placed_in : HandlerId → System → Option PlacedHandler
placed_in h v = find (is_placed h) v.handlers

abbrev pub id_in : LocalClient → ClientId
id_in c = c.client.id

abbrev pub is_client : ClientId → LocalClient → Bool
is_client c d = same_client (id_in d) c

abbrev pub client_in : ClientId → System → Option LocalClient
client_in c v = find (is_client c) v.clients

-- the state that is stored of the handler; where none is, that of a new one
abbrev pub stored_in : PlacedHandler → HandlerState
stored_in s = opening_state (its_number s) s.placed s.local.stored

-- the handler's state is stored
abbrev pub IsStored : PlacedHandler → Type 0
IsStored s = stored_in s ≡ s.local.core.state

-- ---- one handler or one client changes

-- the same place, with another handler
abbrev pub with_local : LocalHandler → PlacedHandler → PlacedHandler
with_local x s = record s { local = x }

abbrev pub newer_placed : PlacedHandler → PlacedHandler → PlacedHandler
newer_placed s x = if is_placed (its_number s) x then s else x

abbrev pub with_placed : PlacedHandler → System → System
with_placed s v = record v { handlers = map (newer_placed s) v.handlers }

abbrev pub newer_client : LocalClient → LocalClient → LocalClient
newer_client c x = if is_client (id_in c) x then c else x

abbrev pub with_client : LocalClient → System → System
with_client c v = record v { clients = map (newer_client c) v.clients }

-- ---- how

abbrev pub on_node : ℕ → PlacedHandler → Bool
on_node n s = s.node == n

-- a handler of the node takes its stored state, with no job out
abbrev pub after_reopening : ℕ → PlacedHandler → PlacedHandler
after_reopening n s =
    if on_node n s then with_local (opening_handler (its_number s) s.local.core.class s.placed s.local.stored) s else s

-- the client is this now
abbrev pub after_step : ClientState → LocalClient → LocalClient
after_step d c = record c { client = d }

-- the next incarnation is stored, and the client greets again
abbrev pub after_restart : LocalClient → LocalClient
after_restart c =
    record { client = greeting c.client.id (c.stored + 1) c.client.handlers 0 c.client.batch; stored = c.stored + 1 }

-- ---- as it opens

-- a new handler, whose state is stored
abbrev pub new_placed : Placement → PlacedHandler
new_placed p =
    record { node = p.node; placed = p.words; local = opening_handler p.handler p.class p.words (Some (new_state p.handler p.words)) }

abbrev pub new_client : Newcomer → LocalClient
new_client n = record { client = greeting n.id (n.stored + 1) n.handlers 0 n.batch; stored = n.stored + 1 }

abbrev pub new_system : List Placement → List Newcomer → System
new_system placements newcomers =
    record { handlers = map new_placed placements; clients = map new_client newcomers }
