-- One list of all moves, seen by each handler and each client alone.
use Rattle.std.specs.Prelude.{◌≡◌, ℕ, ◌==◌, ⊤, Bool, true, false, List, [], ◌∷◌, ◌++◌, filter, map}
use Rattle.std.specs.List.{list_any, AllByRecursion, AllZip}
use Rattle.scoop_message.specs.declared.name.ClientId.{ClientId}
use Rattle.scoop_message.specs.declared.name.HandlerId.{HandlerId}
use Rattle.scoop_message.specs.Message.{same_handler, same_client}
use Rattle.scoop_model.specs.Step.{Placement, Newcomer}
use Rattle.scoop_weave.specs.System.{PlacedHandler, LocalClient, System, its_number, id_in, new_system}
use Rattle.scoop_weave.specs.Moves.{LocalMove, Heard, Began, Finished, NodeReopened, Commanded, Sent, ClientHeard, ClientRestarted, HandlerMoves, ClientMoves}
use Rattle.scoop_weave.specs.Moves.{HeardIn, sent_by}

-- ---- the moves of one party

-- the move is that of the handler, or of the node that it stands on
abbrev pub is_at : HandlerId → ℕ → LocalMove → Bool
is_at h n (Heard k m told) = same_handler k h
is_at h n (Began k told) = same_handler k h
is_at h n (Finished k ran) = same_handler k h
is_at h n (NodeReopened k) = n == k
is_at h n (Commanded c x b) = false
is_at h n (Sent c k m) = false
is_at h n (ClientHeard c m note) = false
is_at h n (ClientRestarted c) = false

abbrev pub is_by : ClientId → LocalMove → Bool
is_by c (Heard h m told) = false
is_by c (Began h told) = false
is_by c (Finished h ran) = false
is_by c (NodeReopened n) = false
is_by c (Commanded d x b) = same_client d c
is_by c (Sent d h m) = same_client d c
is_by c (ClientHeard d m note) = same_client d c
is_by c (ClientRestarted d) = same_client d c

abbrev pub moves_at : HandlerId → ℕ → List LocalMove → List LocalMove
moves_at h n ms = filter (is_at h n) ms

abbrev pub moves_by : ClientId → List LocalMove → List LocalMove
moves_by c ms = filter (is_by c) ms

-- ---- one party, move after move

-- moves, each of which leads on like this, lead from the one to the other
abbrev pub LeadOn : {A : Type 0} → (LocalMove → A → A → Type 0) → A → List LocalMove → A → Type 0
LeadOn R x [] y = x ≡ y
LeadOn {A = A} R x (m ∷ ms) y = (z : A) × R m x z × LeadOn R z ms y

abbrev pub HandlerRuns : PlacedHandler → List LocalMove → PlacedHandler → Type 0
HandlerRuns s ms t = LeadOn HandlerMoves s ms t

abbrev pub ClientRuns : LocalClient → List LocalMove → LocalClient → Type 0
ClientRuns c ms d = LeadOn ClientMoves c ms d

-- ---- all parties

-- the handlers, each by its own moves among these
abbrev pub EachHandler : List LocalMove → List PlacedHandler → List PlacedHandler → Type 0
EachHandler ms ss ts = AllZip (λ s t. HandlerRuns s (moves_at (its_number s) s.node ms) t) ss ts

-- the clients, each by its own moves among these
abbrev pub EachClient : List LocalMove → List LocalClient → List LocalClient → Type 0
EachClient ms cs ds = AllZip (λ c d. ClientRuns c (moves_by (id_in c) ms) d) cs ds

-- after the moves so far, each message that one of these hears was sent before it
abbrev pub HeardAfterSent : List LocalMove → List LocalMove → Type 0
HeardAfterSent past [] = ⊤
HeardAfterSent past (m ∷ ms) = HeardIn (sent_by past) m × HeardAfterSent (past ++ m ∷ []) ms

abbrev pub has_handler : List Placement → HandlerId → Bool
has_handler ps h = list_any (λ k. same_handler k h) (map (λ p. p.handler) ps)

abbrev pub has_node : List Placement → ℕ → Bool
has_node ps n = list_any (λ k. k == n) (map (λ p. p.node) ps)

abbrev pub has_client : List Newcomer → ClientId → Bool
has_client ns c = list_any (λ d. same_client d c) (map (λ n. n.id) ns)

-- the move is that of a handler, a node or a client that was placed or joined
abbrev pub IsMember : List Placement → List Newcomer → LocalMove → Type 0
IsMember ps ns (Heard h m told) = has_handler ps h ≡ true
IsMember ps ns (Began h told) = has_handler ps h ≡ true
IsMember ps ns (Finished h ran) = has_handler ps h ≡ true
IsMember ps ns (NodeReopened n) = has_node ps n ≡ true
IsMember ps ns (Commanded c x b) = has_client ns c ≡ true
IsMember ps ns (Sent c h m) = has_client ns c ≡ true
IsMember ps ns (ClientHeard c m note) = has_client ns c ≡ true
IsMember ps ns (ClientRestarted c) = has_client ns c ≡ true

-- One list of moves. Each party's own moves lead it from how it opens to how it is now, and each message that is heard was sent
-- before.
pub record IsWoven (ps : List Placement) (ns : List Newcomer) (ms : List LocalMove) (now : System) : Type 0 where
  pub handlers : EachHandler ms (new_system ps ns).handlers now.handlers
  pub clients : EachClient ms (new_system ps ns).clients now.clients
  pub sent : HeardAfterSent [] ms
  pub members : AllByRecursion (IsMember ps ns) ms
