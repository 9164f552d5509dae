-- A node's own list, in which its handlers go on one at a time, and all of them where it restarts.
use Rattle.std.specs.Prelude.{◌≡◌, ℕ, ◌==◌, Bool, false, List, [], filter, flat_map, find, map, Some}
use Rattle.std.specs.List.{AllByRecursion}
use Rattle.scoop_message.specs.declared.name.HandlerId.{HandlerId}
use Rattle.scoop_reserve.specs.Handlers.{has}
use Rattle.scoop_model.specs.Step.{Placement, Newcomer}
use Rattle.scoop_weave.specs.System.{PlacedHandler, System, its_number, is_placed, newer_placed, after_reopening, new_system}
use Rattle.scoop_weave.specs.Moves.{LocalMove, Heard, Began, Finished, NodeReopened, Commanded, Sent, ClientHeard, ClientRestarted, HandlerMoves}
use Rattle.scoop_weave.specs.Parties.{LeadOn, EachClient, HeardAfterSent, IsMember}

pub record AtOne (h : HandlerId) (m : LocalMove) (hs ks : List PlacedHandler) : Type 0 where
  pub handler : PlacedHandler
  pub here : find (is_placed h) hs ≡ Some handler
  pub new : PlacedHandler
  pub moves : HandlerMoves m handler new
  pub after : ks ≡ map (newer_placed new) hs

-- the move takes the node's handlers from the one to the other
abbrev pub NodeMoves : LocalMove → List PlacedHandler → List PlacedHandler → Type 0
NodeMoves (Heard h m told) hs ks = AtOne h (Heard h m told) hs ks
NodeMoves (Began h told) hs ks = AtOne h (Began h told) hs ks
NodeMoves (Finished h ran) hs ks = AtOne h (Finished h ran) hs ks
NodeMoves (NodeReopened n) hs ks = ks ≡ map (after_reopening n) hs
NodeMoves (Commanded c x b) hs ks = ⊥
NodeMoves (Sent c h m) hs ks = ⊥
NodeMoves (ClientHeard c m note) hs ks = ⊥
NodeMoves (ClientRestarted c) hs ks = ⊥

abbrev pub NodeRuns : List PlacedHandler → List LocalMove → List PlacedHandler → Type 0
NodeRuns hs ms ks = LeadOn NodeMoves hs ms ks

-- the move is one of the node, which has these handlers
abbrev pub is_of : ℕ → List HandlerId → LocalMove → Bool
is_of n hs (Heard h m told) = has hs h
is_of n hs (Began h told) = has hs h
is_of n hs (Finished h ran) = has hs h
is_of n hs (NodeReopened k) = n == k
is_of n hs (Commanded c x b) = false
is_of n hs (Sent c h m) = false
is_of n hs (ClientHeard c m note) = false
is_of n hs (ClientRestarted c) = false

-- a node, with its handlers as they open and as they are now
pub record Node : Type 0 where
  pub number : ℕ
  pub opening : List PlacedHandler
  pub now : List PlacedHandler

-- the moves of the node among these
abbrev pub moves_of : List LocalMove → Node → List LocalMove
moves_of ms n = filter (is_of n.number (map its_number n.opening)) ms

-- the node has its handlers, and its own moves lead them by themselves
pub record IsNode (ms : List LocalMove) (n : Node) : Type 0 where
  pub stand : AllByRecursion (λ s. s.node ≡ n.number) n.opening
  pub runs : NodeRuns n.opening (moves_of ms n) n.now

-- One list of moves. Each node's and each client's own moves lead it from how it opens to how it is now, and each message that
-- is heard was sent before.
pub record IsWovenOfNodes (ps : List Placement) (ns : List Newcomer) (ms : List LocalMove) (now : System) : Type 0 where
  pub nodes : List Node
  pub opening : flat_map (λ n. n.opening) nodes ≡ (new_system ps ns).handlers
  pub after : flat_map (λ n. n.now) nodes ≡ now.handlers
  pub each : AllByRecursion (IsNode ms) nodes
  pub clients : EachClient ms (new_system ps ns).clients now.clients
  pub sent : HeardAfterSent [] ms
  pub members : AllByRecursion (IsMember ps ns) ms
