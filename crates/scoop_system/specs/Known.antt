-- The handlers on a node, and those that a client knows.
use Rattle.std.specs.Prelude.{ℕ, ◌==◌, Bool, true, List, map, flat_map, Option, Some, None}
use Rattle.std.specs.List.{filter, list_any}
use Rattle.scoop_message.specs.declared.name.HandlerId.{HandlerId}
use Rattle.scoop_system.specs.declared.place.HandlerPlace.{HandlerPlace}
use Rattle.scoop_system.specs.declared.place.ClientPlace.{ClientPlace}
use Rattle.scoop_system.specs.System.{Plan}

-- the handlers on the node of this number
abbrev pub handlers_on : ℕ → List HandlerPlace → List HandlerPlace
handlers_on n hs = filter (λ h. h.node == n) hs

-- the numbers of the handlers on the node of this number
abbrev pub numbers_on : ℕ → List HandlerPlace → List HandlerId
numbers_on n hs = map (λ h. h.handler) (handlers_on n hs)

-- the numbers of all handlers, node by node
abbrev pub known_in : Plan → List HandlerId
known_in s = flat_map (λ n. numbers_on n.number s.handlers) s.nodes

-- the handler is among these
abbrev pub is_among : List HandlerId → HandlerId → Bool
is_among hs handler = list_any (λ h. h.0 == handler.0) hs

-- a client that names these handlers uses the handler; a client that names none uses all
abbrev pub uses : Option (List HandlerId) → HandlerId → Bool
uses None handler = true
uses (Some named) handler = is_among named handler

-- the handlers that a client knows, node by node: those that it uses
abbrev pub known_to : Plan → ClientPlace → List HandlerId
known_to s c = filter (uses c.handlers) (known_in s)
