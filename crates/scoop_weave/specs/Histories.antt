-- Histories that moves show: the blocks that opened and the entries that ran at a handler, the entries that a client logged and
-- the answers that it accepted, and the order in which blocks opened for the first time.
use Rattle.std.specs.Prelude.{ℕ, ◌+◌, Bool, not, ◌&&◌, if◌then◌else◌, List, [], ◌∷◌, ◌++◌, map, flat_map, Option, Some, None, unwrap_or}
use Rattle.scoop_message.specs.contracts.message.MessagePartialEq.TheImpl as on_message
use Rattle.scoop_message.specs.declared.name.Block.{Block}
use Rattle.scoop_message.specs.declared.name.ClientId.{ClientId}
use Rattle.scoop_message.specs.declared.name.HandlerId.{HandlerId}
use Rattle.scoop_message.specs.declared.message.Message.{Message}
use Rattle.scoop_message.specs.Message.{same_handler, same_client, handler_of, client_of, inc_of, named_block, is_for_handler}
use Rattle.scoop_handler.specs.declared.ran.Ran.{Ran}
use Rattle.scoop_client.specs.State.{block_named}
use Rattle.scoop_model.specs.declared.event.Event.{Event}
use Rattle.scoop_model.specs.declared.event.Event.TheVariants.{Do, Tick, Take, Begin, Finish, ClientRestart, NodeRestart}
use Rattle.scoop_model.specs.World.{World, Site, Party, Accepted, BlockLog}
use Rattle.scoop_model.specs.Step.{newly_opened, newly_accepted, joined, logs_after}
use Rattle.scoop_weave.specs.System.{PlacedHandler, LocalClient, System, its_number, id_in, stored_in}
use Rattle.scoop_weave.specs.Moves.{LocalMove, Heard, Began, Finished, NodeReopened, Commanded, Sent, ClientHeard, ClientRestarted, sent_by}

-- ---- at a handler

-- the block that opened by the move, anywhere
abbrev pub opened_in : LocalMove → List Block
opened_in (Heard h m told) = newly_opened told.note
opened_in (Began h told) = []
opened_in (Finished h ran) = []
opened_in (NodeReopened n) = []
opened_in (Commanded c x b) = []
opened_in (Sent c h m) = []
opened_in (ClientHeard c m note) = []
opened_in (ClientRestarted c) = []

-- the same at one handler
abbrev pub opened_here : HandlerId → LocalMove → List Block
opened_here h (Heard k m told) = if same_handler k h then newly_opened told.note else []
opened_here h (Began k told) = []
opened_here h (Finished k ran) = []
opened_here h (NodeReopened n) = []
opened_here h (Commanded c x b) = []
opened_here h (Sent c k m) = []
opened_here h (ClientHeard c m note) = []
opened_here h (ClientRestarted c) = []

-- the entries that ran there by the move
abbrev pub ran_here : HandlerId → LocalMove → List Ran
ran_here h (Heard k m told) = []
ran_here h (Began k told) = []
ran_here h (Finished k ran) = if same_handler k h then ran ∷ [] else []
ran_here h (NodeReopened n) = []
ran_here h (Commanded c x b) = []
ran_here h (Sent c k m) = []
ran_here h (ClientHeard c m note) = []
ran_here h (ClientRestarted c) = []

abbrev pub opened_by : HandlerId → List LocalMove → List Block
opened_by h ms = flat_map (opened_here h) ms

abbrev pub ran_by : HandlerId → List LocalMove → List Ran
ran_by h ms = flat_map (ran_here h) ms

-- ---- at a client

-- the block that a message names; no block of a client is numbered 0
abbrev pub block_in : Message → Block
block_in m = unwrap_or (named_block m) (block_named (client_of m) (inc_of m) 0)

-- the answer that the client accepted by the move
abbrev pub accepted_here : ClientId → LocalMove → List Accepted
accepted_here c (Heard h m told) = []
accepted_here c (Began h told) = []
accepted_here c (Finished h ran) = []
accepted_here c (NodeReopened n) = []
accepted_here c (Commanded d x b) = []
accepted_here c (Sent d h m) = []
accepted_here c (ClientHeard d m note) = if same_client d c then newly_accepted (block_in m) note else []
accepted_here c (ClientRestarted d) = []

abbrev pub accepted_by : ClientId → List LocalMove → List Accepted
accepted_by c ms = flat_map (accepted_here c) ms

-- the blocks that were reserved, with what was logged for each of their handlers, once a move is made
abbrev pub logs_more : List BlockLog → LocalMove → List BlockLog
logs_more logs (Heard h m told) = logs
logs_more logs (Began h told) = logs
logs_more logs (Finished h ran) = logs
logs_more logs (NodeReopened n) = logs
logs_more logs (Commanded c x b) = logs_after x b logs
logs_more logs (Sent c h m) = logs
logs_more logs (ClientHeard c m note) = logs
logs_more logs (ClientRestarted c) = logs

abbrev pub logs_behind : List BlockLog → List LocalMove → List BlockLog
logs_behind logs [] = logs
logs_behind logs (m ∷ ms) = logs_behind (logs_more logs m) ms

abbrev pub logs_by : List LocalMove → List BlockLog
logs_by ms = logs_behind [] ms

-- ---- the common list

abbrev pub joint_behind : List Block → List LocalMove → List Block
joint_behind bs [] = bs
joint_behind bs (m ∷ ms) = joint_behind (joined bs (opened_in m)) ms

-- each block where it opened for the first time anywhere
abbrev pub joint_by : List LocalMove → List Block
joint_by ms = joint_behind [] ms

-- ---- the world of the moves

-- a handler, with what opened and ran there
abbrev pub site_with : PlacedHandler → List Block → List Ran → Site
site_with s opened ran =
    record { node = s.node; placed = s.placed; core = s.local.core; stored = stored_in s; opened = opened; ran = ran }

abbrev pub site_by : List LocalMove → PlacedHandler → Site
site_by ms s = site_with s (opened_by (its_number s) ms) (ran_by (its_number s) ms)

-- a client, with what it accepted
abbrev pub party_with : LocalClient → List Accepted → Party
party_with c accepted = record { client = c.client; stored = c.stored; accepted = accepted }

abbrev pub party_by : List LocalMove → LocalClient → Party
party_by ms c = party_with c (accepted_by (id_in c) ms)

-- the system as it is now, with what the moves tell
abbrev pub world_by : List LocalMove → System → World
world_by ms v =
    record {
      sites = map (site_by ms) v.handlers;
      parties = map (party_by ms) v.clients;
      sent = sent_by ms;
      joint = joint_by ms;
      logs = logs_by ms;
    }

-- ---- the events of the moves

-- the first place of the message among those that were sent, from 1
abbrev pub place_in : List Message → Message → ℕ
place_in [] m = 1
place_in (x ∷ xs) m = if on_message.eq-value.it x m then 1 else place_in xs m + 1

-- the message is meant for the handler, or for the client
abbrev pub is_for : HandlerId → Message → Bool
is_for h m = is_for_handler m && same_handler (handler_of m) h

abbrev pub is_to : ClientId → Message → Bool
is_to c m = not (is_for_handler m) && same_client (client_of m) c

abbrev pub begin_event : HandlerId → Option (Block × ℕ) → List Event
begin_event h None = []
begin_event h (Some told) = Begin h ∷ []

abbrev pub tick_event : ClientId → HandlerId → Option Message → List Event
tick_event c h None = []
tick_event c h (Some m) = Tick c h ∷ []

-- the event that the move is where these messages were sent; none, where it changes nothing
abbrev pub event_in : List Message → LocalMove → List Event
event_in sent (Heard h m told) = if is_for h m then Take (place_in sent m) ∷ [] else []
event_in sent (Began h told) = begin_event h told
event_in sent (Finished h ran) = Finish h ∷ []
event_in sent (NodeReopened n) = NodeRestart n ∷ []
event_in sent (Commanded c x b) = Do c x ∷ []
event_in sent (Sent c h m) = tick_event c h m
event_in sent (ClientHeard c m note) = if is_to c m then Take (place_in sent m) ∷ [] else []
event_in sent (ClientRestarted c) = ClientRestart c ∷ []

-- the events of moves that come after these
abbrev pub events_behind : List LocalMove → List LocalMove → List Event
events_behind past [] = []
events_behind past (m ∷ ms) = event_in (sent_by past) m ++ events_behind (past ++ m ∷ []) ms

abbrev pub events_of : List LocalMove → List Event
events_of ms = events_behind [] ms
