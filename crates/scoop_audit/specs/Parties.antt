-- The parties that a system's file describes, as a world knows them.
use Rattle.std.specs.Prelude.{ℕ, ◌==◌, Bool, List, find, flat_map, map, Option, option_to_list}
use Rattle.std.specs.List.{filter, list_any}
use Rattle.std.specs.Option.{option_map}
use Rattle.scoop_message.specs.declared.name.ClientId.{ClientId}
use Rattle.scoop_message.specs.Lists.{NoRepeats}
use Rattle.scoop_object.specs.Class.{ClassTable}
use Rattle.scoop_model.specs.Opening.{MayOpen}
use Rattle.scoop_model.specs.Step.{Placement, Newcomer}
use Rattle.scoop_replay.specs.declared.node.Placed.{Placed}
use Rattle.scoop_system.specs.declared.place.NodePlace.{NodePlace}
use Rattle.scoop_system.specs.declared.place.HandlerPlace.{HandlerPlace}
use Rattle.scoop_system.specs.declared.place.ClientPlace.{ClientPlace}
use Rattle.scoop_system.specs.Known.{handlers_on, known_to}
use Rattle.scoop_system.specs.System.{NamedClass, Plan, class_table}
use Rattle.scoop_audit.specs.Told.{joining, placements_on}

-- ---- nodes

-- whether the file places a handler on the node of this number
abbrev pub has_handlers : Plan → ℕ → Bool
has_handlers s n = list_any (λ h. h.node == n) s.handlers

-- the nodes that have handlers
abbrev pub nodes_in : Plan → List NodePlace
nodes_in s = filter (λ n. has_handlers s n.number) s.nodes

abbrev pub placed_as : HandlerPlace → ClassTable → Placed
placed_as h class = record { handler = h.handler; class = class; words = h.words }

-- a handler with its class, if there is this class
abbrev pub placed_in : List NamedClass → HandlerPlace → Option Placed
placed_in classes h = option_map (placed_as h) (class_table classes h.class)

-- the handlers on the node of this number, each with its class
abbrev pub placed_on : Plan → ℕ → List Placed
placed_on s n = flat_map (λ h. option_to_list (placed_in s.classes h)) (handlers_on n s.handlers)

-- all handlers with their nodes, node by node
abbrev pub placements_in_file : Plan → List Placement
placements_in_file s = flat_map (λ n. placements_on n.number (placed_on s n.number)) (nodes_in s)

-- ---- clients

-- the client of this number
abbrev pub client_named : List ClientPlace → ClientId → Option ClientPlace
client_named clients id = find (λ c. c.client.0 == id.0) clients

-- a client that knows the handlers that it uses, and of which no incarnation was stored before
abbrev pub joins_in : Plan → ClientPlace → Newcomer
joins_in s c = joining (known_to s c) c.client c.batch

abbrev pub clients_in : Plan → List Newcomer
clients_in s = map (joins_in s) s.clients

-- ---- all

-- A world may open with the file's handlers and clients, and no two nodes that have handlers have one number.
pub record MayRun (s : Plan) : Type 0 where
  pub apart : NoRepeats (map (λ n. n.number) (nodes_in s))
  pub opens : MayOpen (placements_in_file s) (clients_in s)
