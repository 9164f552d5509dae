-- The journals of all parties, and the world that they tell.
use Rattle.std.specs.Prelude.{◌≡◌, ◌⊎◌, ℕ, List, [], ◌++◌, flat_map, map}
use Rattle.std.specs.List.{AllByRecursion, AllZip}
use Rattle.scoop_message.specs.declared.message.Message.{Message}
use Rattle.scoop_message.specs.Lists.{NoRepeats}
use Rattle.scoop_model.specs.Opening.{MayOpen}
use Rattle.scoop_model.specs.Step.{Placement, Newcomer}
use Rattle.scoop_journal.specs.declared.line.Line.{Line}
use Rattle.scoop_weave.specs.System.{new_client}
use Rattle.scoop_weave.specs.Lives.{ClientLife, NodeLife, newcomers_of, placements_of, words_in}
use Rattle.scoop_weaver.specs.declared.traffic.Traffic.{Traffic}
use Rattle.scoop_weaver.specs.declared.trail.Passage.{Passage}
use Rattle.scoop_weaver.specs.Passing.{IsOfWorld}
use Rattle.scoop_weaver.specs.Trails.{HasOrder, HaveTraffic}
use Rattle.scoop_replay.specs.declared.node.Placed.{Placed}
use Rattle.scoop_replay.specs.Node.{NodeTale, new_tale, placed_local}
use Rattle.scoop_replay.specs.Client.{ClientTale, after_one_step, new_client_tale}
use Rattle.scoop_audit.specs.Lines.{IsJournalOf}
use Rattle.scoop_audit.specs.Node.{TellsNode}
use Rattle.scoop_audit.specs.Client.{TellsClient, last_turn}
use Rattle.scoop_audit.specs.Told.{TellsClientLife, TellsLife, newcomer, node_life, placements_on}

-- a node with its handlers, its journal and the trail of what that tells
pub record NodePages : Type 0 where
  pub number : ℕ
  pub placed : List Placed
  pub journal : List ℕ
  pub trail : List Passage

-- the same of a client
pub record ClientPages : Type 0 where
  pub joined : Newcomer
  pub journal : List ℕ
  pub trail : List Passage

abbrev pub placements_in : List NodePages → List Placement
placements_in nodes = flat_map (λ n. placements_on n.number n.placed) nodes

abbrev pub trails_of : List NodePages → List ClientPages → List (List Passage)
trails_of nodes clients = map (λ n. n.trail) nodes ++ map (λ c. c.trail) clients

-- a client without a journal did nothing
pub record IsSilent (c : ClientPages) : Type 0 where
  pub journal_is : c.journal ≡ []
  pub trail_is : c.trail ≡ []

abbrev pub IsToldNode : List Placement → List Message → NodePages → Type 0
IsToldNode ps post n = TellsLife (words_in ps) n.number n.placed n.journal post n.trail

abbrev pub IsToldClient : List Message → ClientPages → Type 0
IsToldClient post c = TellsClientLife c.joined c.journal post c.trail ⊎ IsSilent c

-- each journal tells a life, which the trail has
pub record AreTold (nodes : List NodePages) (clients : List ClientPages) (post : List Message) : Type 0 where
  pub apart : NoRepeats (map (λ n. n.number) nodes)
  pub opens : MayOpen (placements_in nodes) (map (λ c. c.joined) clients)
  pub each_node : AllByRecursion (IsToldNode (placements_in nodes) post) nodes
  pub each_client : AllByRecursion (IsToldClient post) clients

-- the node's journal tells this life
pub record IsLifeOfNode (ps : List Placement) (n : NodePages) (life : NodeLife) : Type 0 where
  pub tale : NodeTale
  pub lines : List Line
  pub journal_is : IsJournalOf n.journal lines
  pub tells : TellsNode (words_in ps) n.number (new_tale (map placed_local n.placed)) lines tale
  pub life_is : life ≡ node_life n.number n.placed tale

-- the client's journal tells this life, with the last turn supposed
pub record IsWrittenLife (c : ClientPages) (life : ClientLife) : Type 0 where
  pub tale : ClientTale
  pub last : ℕ
  pub lines : List Line
  pub journal_is : IsJournalOf c.journal lines
  pub tells : TellsClient c.joined.id c.joined.batch (new_client_tale (new_client c.joined)) last lines tale
  pub life_is : life ≡ newcomer c.joined (after_one_step last_turn tale)

-- the life of a client that did nothing
abbrev pub silent_life : Newcomer → ClientLife
silent_life n = record { joined = n; first = []; more = []; now = new_client n }

abbrev pub IsLifeOfClient : ClientPages → ClientLife → Type 0
IsLifeOfClient c life = IsWrittenLife c life ⊎ ((c.journal ≡ []) × (life ≡ silent_life c.joined))

-- these turns are those of an order of the moves of the lives that the journals tell, and this order is that of a world
pub record IsExplained (nodes : List NodePages) (clients : List ClientPages) (turns : List ℕ) : Type 0 where
  pub lives : List NodeLife
  pub others : List ClientLife
  pub placed : placements_of lives ≡ placements_in nodes
  pub joined : newcomers_of others ≡ map (λ c. c.joined) clients
  pub each_node : AllZip (IsLifeOfNode (placements_in nodes)) nodes lives
  pub each_client : AllZip IsLifeOfClient clients others
  pub order : List (ℕ × Traffic)
  pub turns_are : map (λ x. x.0) order ≡ turns
  pub world : IsOfWorld lives others order

-- the turns are those of an order of each traffic that the trails have, as a weave of them promises
abbrev pub Weaves : List Message → List (List Passage) → List ℕ → Type 0
Weaves post trails turns = (parties : List (List Traffic)) → HaveTraffic post trails parties → HasOrder parties turns
