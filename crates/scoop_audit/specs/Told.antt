-- The life of the theorem that a journal tells.
use Rattle.std.specs.Prelude.{ℕ, List, [], ◌∷◌, ◌++◌, map}
use Rattle.scoop_message.specs.declared.name.ClientId.{ClientId}
use Rattle.scoop_message.specs.declared.name.HandlerId.{HandlerId}
use Rattle.scoop_message.specs.declared.message.Message.{Message}
use Rattle.scoop_model.specs.Step.{Placement, Newcomer}
use Rattle.scoop_journal.specs.declared.line.Line.{Line}
use Rattle.scoop_weave.specs.System.{new_client}
use Rattle.scoop_weave.specs.Lives.{ClientLife, IsClientLife, IsNodeLife, NodeLife, moves_of_client, moves_of_node}
use Rattle.scoop_weaver.specs.declared.trail.Passage.{Passage}
use Rattle.scoop_weaver.specs.Passing.{traffic_of}
use Rattle.scoop_weaver.specs.Trails.{HasTraffic}
use Rattle.scoop_replay.specs.declared.node.Placed.{Placed}
use Rattle.scoop_replay.specs.Node.{NodeTale, new_tale, placed_local}
use Rattle.scoop_replay.specs.Client.{ClientTale, after_one_step, new_client_tale}
use Rattle.scoop_audit.specs.Lines.{IsJournalOf}
use Rattle.scoop_audit.specs.Node.{TellsNode}
use Rattle.scoop_audit.specs.Client.{TellsClient, last_turn}

-- the first one, and the further ones, of the lists that are over and the newest list
abbrev pub first_of : {A : Type 0} → List (List A) → List A → List A
first_of [] newest = newest
first_of (xs ∷ done) newest = xs

abbrev pub later_of : {A : Type 0} → List (List A) → List A → List (List A)
later_of [] newest = []
later_of (xs ∷ done) newest = done ++ newest ∷ []

-- ---- a node

abbrev pub placement_on : ℕ → Placed → Placement
placement_on n p = record { node = n; handler = p.handler; class = p.class; words = p.words }

abbrev pub placements_on : ℕ → List Placed → List Placement
placements_on n ps = map (placement_on n) ps

abbrev pub node_life : ℕ → List Placed → NodeTale → NodeLife
node_life n ps t =
    record {
      number = n;
      placed = placements_on n ps;
      opening = map placed_local ps;
      first = first_of t.done t.newest;
      more = later_of t.done t.newest;
      now = t.handlers;
    }

-- the journal of the node of this number, on which these handlers are placed, tells a life whose traffic the trail has
pub record TellsLife (words : HandlerId → List ℕ) (n : ℕ) (ps : List Placed) (journal : List ℕ) (post : List Message) (trail : List Passage) : Type 0 where
  pub tale : NodeTale
  pub lines : List Line
  pub journal_is : IsJournalOf journal lines
  pub tells : TellsNode words n (new_tale (map placed_local ps)) lines tale
  pub replays : IsNodeLife words (node_life n ps tale)
  pub traffic : HasTraffic post trail (map traffic_of (moves_of_node (node_life n ps tale)))

-- ---- a client

-- a client that knows these handlers, and of which no incarnation was stored before
abbrev pub joining : List HandlerId → ClientId → ℕ → Newcomer
joining known id batch = record { id = id; batch = batch; stored = 0; handlers = known }

abbrev pub newcomer : Newcomer → ClientTale → ClientLife
newcomer n t = record { joined = n; first = first_of t.done t.newest; more = later_of t.done t.newest; now = t.now }

-- the client's journal tells a life, with the last turn supposed, whose traffic the trail has
pub record TellsClientLife (n : Newcomer) (journal : List ℕ) (post : List Message) (trail : List Passage) : Type 0 where
  pub tale : ClientTale
  pub last : ℕ
  pub lines : List Line
  pub journal_is : IsJournalOf journal lines
  pub tells : TellsClient n.id n.batch (new_client_tale (new_client n)) last lines tale
  pub replays : IsClientLife (newcomer n (after_one_step last_turn tale))
  pub traffic : HasTraffic post trail (map traffic_of (moves_of_client (newcomer n (after_one_step last_turn tale))))
