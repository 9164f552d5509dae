-- Traffic: the messages that a move hears and sends, and the one order of running nodes and clients.
use Rattle.std.specs.Prelude.{◌≡◌, ℕ, List, [], ◌∷◌, map, Some, None}
use Rattle.std.specs.List.{AllByRecursion}
use Rattle.scoop_message.specs.Lists.{NoRepeats}
use Rattle.scoop_book.specs.Moves.{Entry}
use Rattle.scoop_driver.specs.declared.step.Step.{Step}
use Rattle.scoop_weave.specs.Moves.{LocalMove, Heard, Began, Finished, NodeReopened, Commanded, Sent, ClientHeard, ClientRestarted}
use Rattle.scoop_weave.specs.System.{LocalClient, after_restart}
use Rattle.scoop_weave.specs.Weave.{IsWorld}
use Rattle.scoop_weave.specs.NodeHistories as node
use Rattle.scoop_weave.specs.NodeHistories.{move_in}
use Rattle.scoop_weave.specs.ClientSteps as client
use Rattle.scoop_weave.specs.ClientSteps.{driven}
use Rattle.scoop_weave.specs.Order.{IsOrder}
use Rattle.scoop_weave.specs.Lives.{NodeLife, ClientLife, IsNodeLife, IsClientLife, placements_of, newcomers_of, words_in, parties_of, system_of}
use Rattle.scoop_weaver.specs.declared.traffic.Traffic.{Traffic}

abbrev pub silent : Traffic
silent = record { heard = None; sent = None }

abbrev pub traffic_of : LocalMove → Traffic
traffic_of (Heard h m told) = record { heard = Some m; sent = told.reply }
traffic_of (Began h told) = silent
traffic_of (Finished h ran) = silent
traffic_of (NodeReopened n) = silent
traffic_of (Commanded c x b) = silent
traffic_of (Sent c h m) = record { heard = None; sent = m }
traffic_of (ClientHeard c m note) = record { heard = Some m; sent = None }
traffic_of (ClientRestarted c) = silent

-- the traffic of an entry of a history
unfoldable pub traffic_in : Entry → Traffic
traffic_in e = traffic_of (move_in e)

-- a node's traffic in its histories
abbrev pub by_node : ℕ → List Entry → List (List Entry) → List Traffic
by_node n first more = map traffic_of (node.moves_of n first more)

-- a client's traffic in the steps of its drivers
abbrev pub by_client : LocalClient → List Step → List (List Step) → List Traffic
by_client c first more = map traffic_of (client.moves_of c first more)

-- the client after the last of its drivers
abbrev pub last_client : LocalClient → List Step → List (List Step) → LocalClient
last_client c first [] = driven c first
last_client c first (steps ∷ more) = last_client (after_restart (driven c first)) steps more

-- a move with its party
abbrev pub tagged : ℕ × LocalMove → ℕ × Traffic
tagged x = (x.0, traffic_of x.1)

-- the traffic of all parties, as the checker takes it
abbrev pub traffic_by : List NodeLife → List ClientLife → List (List Traffic)
traffic_by nodes clients = map (λ ms. map traffic_of ms) (parties_of nodes clients)

-- each node's histories replay, and each client's steps can be made
pub record AreLives (nodes : List NodeLife) (clients : List ClientLife) : Type 0 where
  pub apart : NoRepeats (map (λ n. n.number) nodes)
  pub each_node : AllByRecursion (IsNodeLife (words_in (placements_of nodes))) nodes
  pub each_client : AllByRecursion IsClientLife clients

-- the order has the nodes' and the clients' own moves, and these are a world
pub record IsOfWorld (nodes : List NodeLife) (clients : List ClientLife) (order : List (ℕ × Traffic)) : Type 0 where
  pub moves : List (ℕ × LocalMove)
  pub is : map tagged moves ≡ order
  pub whole : IsOrder (parties_of nodes clients) moves
  pub world : IsWorld (placements_of nodes) (newcomers_of clients) (map (λ x. x.1) moves) (system_of nodes clients)
