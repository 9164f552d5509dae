-- The traffic of a demo's parties, and the result of the search for an order of their moves.
use Rattle.std.specs.Prelude.{◌≡◌, ℕ, if◌then◌else◌, Bool, List, [], ◌∷◌, length}
use Rattle.scoop_message.specs.declared.name.ClientId.{ClientId}
use Rattle.scoop_message.specs.declared.name.HandlerId.{HandlerId}
use Rattle.scoop_book.specs.Moves.{Entry}
use Rattle.scoop_client.specs.State.{ClientState}
use Rattle.scoop_client.specs.Beginning.{greeting}
use Rattle.scoop_driver.specs.declared.step.Step.{Step}
use Rattle.scoop_weave.specs.System.{LocalClient}
use Rattle.scoop_weaver.specs.declared.traffic.Traffic.{Traffic}
use Rattle.scoop_weaver.specs.Passing.{by_client, by_node}
use Rattle.scoop_weaver.specs.Weaving.{IsWoven, IsUnexplained}
use Rattle.scoop_two_cells.specs.declared.outcome.Woven.{Woven}
use Rattle.scoop_two_cells.specs.declared.outcome.Woven.TheVariants.{Moves, Unsent}

-- the handlers that a client knows, node by node, as they are placed: both cells, and with a wait the account
abbrev pub known_with : Bool → List HandlerId
known_with waits =
    if waits then record { 0 = 1 } ∷ record { 0 = 3 } ∷ record { 0 = 2 } ∷ []
    else record { 0 = 1 } ∷ record { 0 = 2 } ∷ []

-- the client with which a driver begins
abbrev pub as_begun : ClientId → ℕ → Bool → ClientState
as_begun number inc waits = greeting number inc (known_with waits) 0 1

-- the traffic of a node, by its history
abbrev pub node_traffic : List Entry → List Traffic
node_traffic history = by_node 0 history []

-- the traffic of a client, by the steps in its diary
abbrev pub client_traffic : ClientId → ℕ → Bool → List Step → List Traffic
client_traffic number inc waits steps = by_client (record { client = as_begun number inc waits; stored = inc }) steps []

-- there is an order of this many moves, or no order has the named move
abbrev pub Tells : List (List Traffic) → Woven → Type 0
Tells parties (Moves count) = (order : List (ℕ × Traffic)) × IsWoven parties order × (count ≡ length order)
Tells parties (Unsent party place) = IsUnexplained parties party place
