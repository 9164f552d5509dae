-- Local moves: one step of a handler, a node or a client, and all that it shows.
use Rattle.std.specs.Prelude.{◌≡◌, ℕ, ◌-◌, ◌^◌, ◌==◌, ⊤, true, false, List, [], ◌∷◌, ◌++◌, map, flat_map, Contains, Option, Some, option_to_list, Ok}
use Rattle.std.specs.List.{list_any}
use Rattle.scoop_message.specs.declared.name.Block.{Block}
use Rattle.scoop_message.specs.declared.name.ClientId.{ClientId}
use Rattle.scoop_message.specs.declared.name.HandlerId.{HandlerId}
use Rattle.scoop_message.specs.declared.message.Message.{Message}
use Rattle.scoop_reserve.specs.Handlers.{has}
use Rattle.scoop_handler.specs.declared.note.Heard.{Heard as Reply}
use Rattle.scoop_handler.specs.declared.ran.Ran.{Ran}
use Rattle.scoop_handler.specs.Local.{LocalHandler, Hears, Begins, Finishes}
use Rattle.scoop_client.specs.declared.phase.ClientNote.{ClientNote}
use Rattle.scoop_client.specs.State.{ClientState}
use Rattle.scoop_client.specs.Due.{due}
use Rattle.scoop_client.specs.Hearing.{heard}
use Rattle.scoop_client.specs.declared.command.Command.{Command}
use Rattle.scoop_client.specs.Commands.{command}
use Rattle.scoop_model.specs.Step.{newest_block}
use Rattle.scoop_weave.specs.System.{PlacedHandler, LocalClient, System, placed_in, client_in, on_node, with_local, with_placed, with_client, after_reopening}
use Rattle.scoop_weave.specs.System.{after_step, after_restart}

pub data LocalMove : Type 0 where
  -- the handler heard the message, replied and noted
  Heard : HandlerId → Message → Reply → LocalMove
  -- the handler's next entry, if it has one, left with the object
  Began : HandlerId → Option (Block × ℕ) → LocalMove
  -- the job that was out has run
  Finished : HandlerId → Ran → LocalMove
  -- the node restarted
  NodeReopened : ℕ → LocalMove
  -- the client took the command, and its newest block is this
  Commanded : ClientId → Command → Block → LocalMove
  -- the client sent the handler what was due to it, if anything
  Sent : ClientId → HandlerId → Option Message → LocalMove
  -- the client heard the message, with this note
  ClientHeard : ClientId → Message → ClientNote → LocalMove
  -- the client restarted
  ClientRestarted : ClientId → LocalMove

-- ---- at a handler

-- the handler goes on as this says, at its place
pub record Goes (R : LocalHandler → LocalHandler → Type 0) (s t : PlacedHandler) : Type 0 where
  pub new : LocalHandler
  pub moves : R s.local new
  pub after : t ≡ with_local new s

-- the move takes a handler from the one to the other, and shows what it did
abbrev pub HandlerMoves : LocalMove → PlacedHandler → PlacedHandler → Type 0
HandlerMoves (Heard h m told) s t = Goes (Hears m told) s t
HandlerMoves (Began h told) s t = Goes (Begins told) s t
HandlerMoves (Finished h ran) s t = Goes (Finishes ran) s t
HandlerMoves (NodeReopened n) s t = t ≡ after_reopening n s
HandlerMoves (Commanded c x b) s t = ⊥
HandlerMoves (Sent c h m) s t = ⊥
HandlerMoves (ClientHeard c m note) s t = ⊥
HandlerMoves (ClientRestarted c) s t = ⊥

-- ---- at a client

pub record Takes (x : Command) (b : Block) (c d : LocalClient) : Type 0 where
  pub new : ClientState
  pub taken : command c.client x ≡ Ok new
  pub tells : b ≡ newest_block new
  pub after : d ≡ after_step new c

pub record Sends (h : HandlerId) (m : Option Message) (c d : LocalClient) : Type 0 where
  pub named : has c.client.handlers h ≡ true
  pub tells : m ≡ due c.client h
  pub after : d ≡ c

pub record Notices (m : Message) (note : ClientNote) (c d : LocalClient) : Type 0 where
  pub tells : note ≡ (heard c.client m).1
  pub after : d ≡ after_step (heard c.client m).0 c

pub record Restarts (c d : LocalClient) : Type 0 where
  pub room : (c.stored == 2 ^ 32 - 1) ≡ false
  pub after : d ≡ after_restart c

-- the move takes a client from the one to the other, and shows what it did
abbrev pub ClientMoves : LocalMove → LocalClient → LocalClient → Type 0
ClientMoves (Heard h m told) c d = ⊥
ClientMoves (Began h told) c d = ⊥
ClientMoves (Finished h ran) c d = ⊥
ClientMoves (NodeReopened n) c d = ⊥
ClientMoves (Commanded x y b) c d = Takes y b c d
ClientMoves (Sent x h m) c d = Sends h m c d
ClientMoves (ClientHeard x m note) c d = Notices m note c d
ClientMoves (ClientRestarted x) c d = Restarts c d

-- ---- in a system

pub record AtHandler (h : HandlerId) (m : LocalMove) (v w : System) : Type 0 where
  pub handler : PlacedHandler
  pub here : placed_in h v ≡ Some handler
  pub new : PlacedHandler
  pub moves : HandlerMoves m handler new
  pub after : w ≡ with_placed new v

-- each handler of the node takes its stored state, and some handler stands on it
pub record AtNode (n : ℕ) (v w : System) : Type 0 where
  pub some : list_any (on_node n) v.handlers ≡ true
  pub after : w ≡ record v { handlers = map (after_reopening n) v.handlers }

pub record AtClient (c : ClientId) (m : LocalMove) (v w : System) : Type 0 where
  pub client : LocalClient
  pub here : client_in c v ≡ Some client
  pub new : LocalClient
  pub moves : ClientMoves m client new
  pub after : w ≡ with_client new v

-- the move takes the one system to the other
abbrev pub Moves : LocalMove → System → System → Type 0
Moves (Heard h m told) v w = AtHandler h (Heard h m told) v w
Moves (Began h told) v w = AtHandler h (Began h told) v w
Moves (Finished h ran) v w = AtHandler h (Finished h ran) v w
Moves (NodeReopened n) v w = AtNode n v w
Moves (Commanded c x b) v w = AtClient c (Commanded c x b) v w
Moves (Sent c h m) v w = AtClient c (Sent c h m) v w
Moves (ClientHeard c m note) v w = AtClient c (ClientHeard c m note) v w
Moves (ClientRestarted c) v w = AtClient c (ClientRestarted c) v w

-- ---- what was sent

abbrev pub sent_in : LocalMove → List Message
sent_in (Heard h m told) = option_to_list told.reply
sent_in (Began h told) = []
sent_in (Finished h ran) = []
sent_in (NodeReopened n) = []
sent_in (Commanded c x b) = []
sent_in (Sent c h m) = option_to_list m
sent_in (ClientHeard c m note) = []
sent_in (ClientRestarted c) = []

abbrev pub sent_by : List LocalMove → List Message
sent_by ms = flat_map sent_in ms

-- a message that the move hears is one of these
abbrev pub HeardIn : List Message → LocalMove → Type 0
HeardIn sent (Heard h m told) = Contains sent m
HeardIn sent (Began h told) = ⊤
HeardIn sent (Finished h ran) = ⊤
HeardIn sent (NodeReopened n) = ⊤
HeardIn sent (Commanded c x b) = ⊤
HeardIn sent (Sent c h m) = ⊤
HeardIn sent (ClientHeard c m note) = Contains sent m
HeardIn sent (ClientRestarted c) = ⊤

-- ---- one after another

-- after the moves so far these lead from one system to the other, and each message that is heard was sent before
abbrev pub IsWeave : List LocalMove → System → List LocalMove → System → Type 0
IsWeave past v [] w = v ≡ w
IsWeave past v (m ∷ ms) w = (u : System) × HeardIn (sent_by past) m × Moves m v u × IsWeave (past ++ m ∷ []) u ms w
