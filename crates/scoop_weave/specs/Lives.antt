-- Running nodes and clients: what their books' histories and their drivers' diaries tell, and one order of it.
use Rattle.std.specs.Prelude.{◌≡◌, ◌≤◌, ℕ, List, [], ◌++◌, find, flat_map, length, map, unwrap_or}
use Rattle.std.specs.List.{AllByRecursion}
use Rattle.std.specs.Option.{option_map}
use Rattle.scoop_message.specs.declared.name.HandlerId.{HandlerId}
use Rattle.scoop_message.specs.Message.{same_handler}
use Rattle.scoop_model.specs.Step.{Placement, Newcomer}
use Rattle.scoop_message.specs.Lists.{NoRepeats}
use Rattle.scoop_handler.specs.Local.{LocalHandler}
use Rattle.scoop_book.specs.Moves.{Entry}
use Rattle.scoop_driver.specs.declared.step.Step.{Step}
use Rattle.scoop_weave.specs.System.{PlacedHandler, LocalClient, System, new_client}
use Rattle.scoop_weave.specs.Moves.{LocalMove}
use Rattle.scoop_weave.specs.Parties.{HeardAfterSent}
use Rattle.scoop_weave.specs.NodeHistories as node
use Rattle.scoop_weave.specs.ClientSteps as client
use Rattle.scoop_weave.specs.Order.{IsOrder}

-- a node: its number, the handlers that were placed on it, these as they opened first, its histories, and the handlers
-- as they are now
pub record NodeLife : Type 0 where
  pub number : ℕ
  pub placed : List Placement
  pub opening : List LocalHandler
  pub first : List Entry
  pub more : List (List Entry)
  pub now : List LocalHandler

-- a client: as it joined, the steps of its drivers, and the client as it is now
pub record ClientLife : Type 0 where
  pub joined : Newcomer
  pub first : List Step
  pub more : List (List Step)
  pub now : LocalClient

abbrev pub placements_of : List NodeLife → List Placement
placements_of nodes = flat_map (λ n. n.placed) nodes

abbrev pub newcomers_of : List ClientLife → List Newcomer
newcomers_of clients = map (λ c. c.joined) clients

-- the words with which the handler was placed
abbrev pub words_in : List Placement → HandlerId → List ℕ
words_in ps h = unwrap_or (option_map (λ p. p.words) (find (λ p. same_handler p.handler h) ps)) []

-- a client as it opens
abbrev pub newly : ClientLife → LocalClient
newly c = new_client c.joined

-- ---- what each did

abbrev pub moves_of_node : NodeLife → List LocalMove
moves_of_node n = node.moves_of n.number n.first n.more

abbrev pub moves_of_client : ClientLife → List LocalMove
moves_of_client c = client.moves_of (newly c) c.first c.more

-- all nodes, and then all clients
abbrev pub parties_of : List NodeLife → List ClientLife → List (List LocalMove)
parties_of nodes clients = map moves_of_node nodes ++ map moves_of_client clients

-- ---- as they are now

abbrev pub handlers_of : List Placement → NodeLife → List PlacedHandler
handlers_of ps n = map (node.local_of (words_in ps) n.number) n.now

abbrev pub system_of : List NodeLife → List ClientLife → System
system_of nodes clients =
    record { handlers = flat_map (handlers_of (placements_of nodes)) nodes; clients = map (λ c. c.now) clients }

-- ---- what is so of each, as its own book and its own drivers promise

-- one handler at least stands on the node, and its histories replay
pub record IsNodeLife (words : HandlerId → List ℕ) (n : NodeLife) : Type 0 where
  pub some : 1 ≤ length n.placed
  pub stand : AllByRecursion (λ p. p.node ≡ n.number) n.placed
  pub opens : node.AllOpenFirst n.placed n.opening
  pub lives : node.Lives words n.opening n.first n.more n.now

abbrev pub IsClientLife : ClientLife → Type 0
IsClientLife c = client.Lives (newly c) c.first c.more c.now

-- Each node's histories replay and each client's steps can be made. The order has all that they did, each in its own
-- order, and each message that is heard was sent before.
pub record Runs (nodes : List NodeLife) (clients : List ClientLife) (order : List (ℕ × LocalMove)) : Type 0 where
  pub apart : NoRepeats (map (λ n. n.number) nodes)
  pub each_node : AllByRecursion (IsNodeLife (words_in (placements_of nodes))) nodes
  pub each_client : AllByRecursion IsClientLife clients
  pub whole : IsOrder (parties_of nodes clients) order
  pub sent : HeardAfterSent [] (map (λ x. x.1) order)
