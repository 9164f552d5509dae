-- The handlers and clients with which a program opens a world.
use Rattle.std.specs.Prelude.{ℕ, ◌≤◌, List, Option, unwrap_or, map}
use Rattle.scoop_message.specs.declared.limits.TheConstants.{MAX_ENTRIES}
use Rattle.scoop_message.specs.declared.name.ClientId.{ClientId}
use Rattle.scoop_message.specs.declared.name.HandlerId.{HandlerId}
use Rattle.scoop_model.specs.Step.{Placement, Newcomer}
use Rattle.scoop_world.specs.declared.placing.Placement.{Placement as Placed}

-- a client, with the most entries that one of its Logs carries
abbrev pub IsBatched : ClientId × ℕ → Type 0
IsBatched c = (1 ≤ c.1) × (c.1 ≤ MAX_ENTRIES)

-- a handler as it is placed, with its object's words
abbrev pub placement_of : {B : Type 0} → (B → List ℕ) → Placed B → Placement
placement_of words p = record { node = p.node; handler = p.handler; class = p.class; words = words p.object }

abbrev pub placements_of : {B : Type 0} → (B → List ℕ) → List (Placed B) → List Placement
placements_of words ps = map (placement_of words) ps

-- a client that knows these handlers, with its batch and its stored incarnation
abbrev pub newcomer_of : List HandlerId → (ℕ → Option ℕ) → ClientId × ℕ → Newcomer
newcomer_of hs stored c = record { id = c.0; batch = c.1; stored = unwrap_or (stored c.0.0) 0; handlers = hs }

abbrev pub newcomers_of : List HandlerId → (ℕ → Option ℕ) → List (ClientId × ℕ) → List Newcomer
newcomers_of hs stored cs = map (newcomer_of hs stored) cs
