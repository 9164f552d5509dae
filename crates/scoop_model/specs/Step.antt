-- One event in a world, and the world as it opens.
use Rattle.std.specs.Prelude.{ℕ, ◌+◌, ◌-◌, ◌^◌, ◌==◌, false, if◌then◌else◌, List, [], ◌∷◌, ◌++◌, length, map, Option, Some, None, option_to_list, Result, Ok}
use Rattle.std.specs.Prelude.{Err}
use Rattle.std.specs.List.{list_any}
use Rattle.std.specs.Option.{option_map}
use Rattle.scoop_message.specs.declared.name.Block.{Block}
use Rattle.scoop_message.specs.declared.name.ClientId.{ClientId}
use Rattle.scoop_message.specs.declared.name.HandlerId.{HandlerId}
use Rattle.scoop_message.specs.declared.request.Entry.{Entry}
use Rattle.scoop_message.specs.declared.request.Entry.TheVariants.{End as EndEntry, Call as CallEntry, Query as QueryEntry}
use Rattle.scoop_message.specs.declared.message.Message.{Message}
use Rattle.scoop_message.specs.Message.{handler_of, client_of, is_for_handler}
use Rattle.scoop_object.specs.Class.{ClassTable}
use Rattle.scoop_handler.specs.declared.note.Note.{Note}
use Rattle.scoop_handler.specs.declared.note.Note.TheVariants.{Greeted, Granted, Held, Opened, Freed, Took, Known, Dropped}
use Rattle.scoop_handler.specs.State.{HandlerState, new_state}
use Rattle.scoop_handler.specs.Core.{core_of, with_state}
use Rattle.scoop_handler.specs.Hearing.{Hearing, hear}
use Rattle.scoop_handler.specs.Running.{Task, ready, job_out, ran_of, begun, finished}
use Rattle.scoop_client.specs.declared.phase.ClientNote.{ClientNote}
use Rattle.scoop_client.specs.declared.phase.ClientNote.TheVariants.{Welcomed, Locked, Busy, Opened as OpenedNote, Unlocked, Acknowledged}
use Rattle.scoop_client.specs.declared.phase.ClientNote.TheVariants.{Accepted as AcceptedNote, Ignored}
use Rattle.scoop_client.specs.State.{ClientState, block_named}
use Rattle.scoop_client.specs.Beginning.{greeting}
use Rattle.scoop_client.specs.Due.{due}
use Rattle.scoop_client.specs.Hearing.{Notice, heard}
use Rattle.scoop_client.specs.Commands as client
use Rattle.scoop_client.specs.declared.command.Command.{Command}
use Rattle.scoop_client.specs.declared.command.Command.TheVariants.{Reserve, Call, Query, End, GiveUp}
use Rattle.scoop_model.specs.declared.event.Event.{Event}
use Rattle.scoop_model.specs.declared.event.Event.TheVariants.{Do, Tick, Take, Begin, Finish, ClientRestart, NodeRestart}
use Rattle.scoop_model.specs.declared.note.WorldNote.{WorldNote}
use Rattle.scoop_model.specs.declared.note.WorldNote.TheVariants as note
use Rattle.scoop_model.specs.declared.error.WorldError.{WorldError}
use Rattle.scoop_model.specs.declared.error.WorldError.TheVariants.{NoSuchMessage, NoSuchParty, NothingToRun, ClientRefused, IncarnationsSpent}
use Rattle.scoop_model.specs.World.{World, Site, Party, Accepted, HandlerLog, BlockLog, set_site, set_party, site_of, party_of, has_block, is_log_of}
use Rattle.scoop_model.specs.World.{is_share_of, sent_at}

-- the world after an event and its note, or the reason why it is refused (apart from out of memory)
abbrev pub Stepped : Type 0
Stepped = Result (World × WorldNote) WorldError

-- one site, or one party, changes
abbrev pub with_site : World → Site → World
with_site w s = record w { sites = set_site s w.sites }

abbrev pub with_party : World → Party → World
with_party w p = record w { parties = set_party p w.parties }

-- ---- a client takes a command

-- the newest block that the client began
abbrev pub newest_block : ClientState → Block
newest_block c = block_named c.id c.inc c.last

abbrev pub fresh_log : HandlerId → HandlerLog
fresh_log h = record { handler = h; entries = [] }

abbrev pub with_entry : Entry → HandlerLog → HandlerLog
with_entry e l = record l { entries = l.entries ++ e ∷ [] }

-- one more entry at one of the block's handlers
abbrev pub with_entry_at : HandlerId → Entry → HandlerLog → HandlerLog
with_entry_at h e l = if is_share_of h l then with_entry e l else l

-- the shares of one block change
abbrev pub changed_log : Block → (HandlerLog → HandlerLog) → BlockLog → BlockLog
changed_log b f l = if is_log_of b l then record l { shares = map f l.shares } else l

-- the logs after the client of this block has taken the command
abbrev pub logs_after : Command → Block → List BlockLog → List BlockLog
logs_after (Reserve hs) b logs = logs ++ record { block = b; shares = map fresh_log hs } ∷ []
logs_after (Call h r) b logs = map (changed_log b (with_entry_at h (CallEntry r))) logs
logs_after (Query h r) b logs = map (changed_log b (with_entry_at h (QueryEntry r))) logs
logs_after End b logs = map (changed_log b (with_entry EndEntry)) logs
logs_after GiveUp b logs = logs

-- the client is this now, and what the command logs is logged for its block
abbrev pub commanded_world : World → Party → Command → ClientState → World
commanded_world w p x c =
    record w { parties = set_party (record p { client = c }) w.parties; logs = logs_after x (newest_block c) w.logs }

abbrev pub commanded : World → Party → Command → client.Outcome → Stepped
commanded w p x (Err e) = Err (ClientRefused e)
commanded w p x (Ok c) = Ok (commanded_world w p x c, note.Done)

abbrev pub do_at : World → Command → Option Party → Stepped
do_at w x None = Err NoSuchParty
do_at w x (Some p) = commanded w p x (client.command p.client x)

-- ---- a client sends what it owes

abbrev pub with_sent : World → Option Message → World
with_sent w m = record w { sent = w.sent ++ option_to_list m }

-- the place of the next message that is sent, if there is one
abbrev pub place_of : World → Option Message → Option ℕ
place_of w m = option_map (λ _. length w.sent + 1) m

abbrev pub sent_or_silent : Option ℕ → WorldNote
sent_or_silent None = note.Silent
sent_or_silent (Some i) = note.Sent i

abbrev pub sends : World → Option Message → Stepped
sends w m = Ok (with_sent w m, sent_or_silent (place_of w m))

abbrev pub tick_at : World → HandlerId → Option Party → Option Site → Stepped
tick_at w h None s = Err NoSuchParty
tick_at w h (Some p) None = Err NoSuchParty
tick_at w h (Some p) (Some s) = sends w (due p.client h)

-- ---- a message comes to a handler

-- the block that has opened by this note
abbrev pub newly_opened : Note → List Block
newly_opened (Opened b) = b ∷ []
newly_opened Greeted = []
newly_opened Granted = []
newly_opened Held = []
newly_opened Freed = []
newly_opened (Took n) = []
newly_opened Known = []
newly_opened (Dropped why) = []

-- a block joins the common list at its first opening anywhere
abbrev pub joined : List Block → List Block → List Block
joined bs [] = bs
joined bs (b ∷ new) = if has_block bs b then bs else bs ++ b ∷ []

-- the handler has this state, which is stored
abbrev pub heard_site : Site → Hearing → Site
heard_site s r = record s { core = with_state r.0 s.core; stored = r.0; opened = s.opened ++ newly_opened r.1.note }

-- the reply is sent, and a block that has opened joins the common list
abbrev pub heard_world : World → Site → Hearing → World
heard_world w s r =
    record w {
      sites = set_site (heard_site s r) w.sites;
      sent = w.sent ++ option_to_list r.1.reply;
      joint = joined w.joint (newly_opened r.1.note);
    }

abbrev pub at_handler : World → Site → Hearing → Stepped
at_handler w s r = Ok (heard_world w s r, note.Handler r.1.note (place_of w r.1.reply))

abbrev pub taken_by_handler : World → Message → Option Site → Stepped
taken_by_handler w m None = Err NoSuchParty
taken_by_handler w m (Some s) = at_handler w s (hear s.core.state m)

-- ---- a message comes to a client

-- an answer of this block that is accepted by this note
abbrev pub newly_accepted : Block → ClientNote → List Accepted
newly_accepted b (AcceptedNote h n a) = (h, b, n, a) ∷ []
newly_accepted b (Welcomed h) = []
newly_accepted b (Locked h) = []
newly_accepted b (Busy h) = []
newly_accepted b (OpenedNote h) = []
newly_accepted b (Unlocked h) = []
newly_accepted b (Acknowledged h n) = []
newly_accepted b Ignored = []

abbrev pub heard_party : Party → Notice → Party
heard_party p r = record p { client = r.0; accepted = p.accepted ++ newly_accepted (newest_block p.client) r.1 }

abbrev pub at_client : World → Party → Notice → Stepped
at_client w p r = Ok (with_party w (heard_party p r), note.Client r.1)

abbrev pub taken_by_client : World → Message → Option Party → Stepped
taken_by_client w m None = Err NoSuchParty
taken_by_client w m (Some p) = at_client w p (heard p.client m)

abbrev pub taken : World → Option Message → Stepped
taken w None = Err NoSuchMessage
taken w (Some m) =
    if is_for_handler m then taken_by_handler w m (site_of (handler_of m) w)
    else taken_by_client w m (party_of (client_of m) w)

-- ---- an entry runs

-- a job goes out, and the record stays
abbrev pub begun_site : Site → Site
begun_site s = record s { core = begun s.core }

abbrev pub begins : World → Site → Option Task → Stepped
begins w s None = Err NothingToRun
begins w s (Some t) = Ok (with_site w (begun_site s), note.Began t.block t.number)

abbrev pub begin_at : World → Option Site → Stepped
begin_at w None = Err NoSuchParty
begin_at w (Some s) = begins w s (ready s.core)

-- the job that is out has run: the handler has a new state, which is stored
abbrev pub finished_site : Site → Task → Site
finished_site s t =
    record s { core = finished t s.core; stored = (finished t s.core).state; ran = s.ran ++ ran_of t ∷ [] }

abbrev pub finishes : World → Site → Option Task → Stepped
finishes w s None = Err NothingToRun
finishes w s (Some t) = Ok (with_site w (finished_site s t), note.Ran (ran_of t))

abbrev pub finish_at : World → Option Site → Stepped
finish_at w None = Err NoSuchParty
finish_at w (Some s) = finishes w s (job_out s.core)

-- ---- restarts

-- the next incarnation is stored, all but the client's name, handlers and batch is forgotten, and it greets again
abbrev pub restarted_party : Party → Party
restarted_party p =
    record p { client = greeting p.client.id (p.stored + 1) p.client.handlers 0 p.client.batch; stored = p.stored + 1 }

abbrev pub restart_client : World → Option Party → Stepped
restart_client w None = Err NoSuchParty
restart_client w (Some p) =
    if p.stored == 2 ^ 32 - 1 then Err IncarnationsSpent
    else Ok (with_party w (restarted_party p), note.Restarted (p.stored + 1))

-- a handler takes its stored state, with no job out
abbrev pub reopened_site : Site → Site
reopened_site s = record s { core = core_of s.core.class s.stored false }

-- each handler of the node does
abbrev pub reopened : ℕ → Site → Site
reopened n s = if s.node == n then reopened_site s else s

abbrev pub reopened_world : World → ℕ → World
reopened_world w n = record w { sites = map (reopened n) w.sites }

abbrev pub restart_node : World → ℕ → Stepped
restart_node w n =
    if list_any (λ s. s.node == n) w.sites then Ok (reopened_world w n, note.Reopened) else Err NoSuchParty

-- ---- one event

abbrev pub step : World → Event → Stepped
step w (Do c x) = do_at w x (party_of c w)
step w (Tick c h) = tick_at w h (party_of c w) (site_of h w)
step w (Take i) = taken w (sent_at i w)
step w (Begin h) = begin_at w (site_of h w)
step w (Finish h) = finish_at w (site_of h w)
step w (ClientRestart c) = restart_client w (party_of c w)
step w (NodeRestart n) = restart_node w n

-- ---- the opening world

-- a handler as it is placed: its node, its number, and its object's class and words
pub record Placement : Type 0 where
  pub node : ℕ
  pub handler : HandlerId
  pub class : ClassTable
  pub words : List ℕ

-- a client as it joins, with the incarnation that was stored before, 0 where none was, and the handlers that it knows
pub record Newcomer : Type 0 where
  pub id : ClientId
  pub batch : ℕ
  pub stored : ℕ
  pub handlers : List HandlerId

abbrev pub new_site : Placement → Site
new_site p =
    let s : HandlerState = new_state p.handler p.words in
    record { node = p.node; placed = p.words; core = core_of p.class s false; stored = s; opened = []; ran = [] }

abbrev pub new_party : Newcomer → Party
new_party n = record { client = greeting n.id (n.stored + 1) n.handlers 0 n.batch; stored = n.stored + 1; accepted = [] }

-- no handler has been greeted and nothing was sent; each client knows its own handlers, in its next incarnation
abbrev pub opening : List Placement → List Newcomer → World
opening placements newcomers =
    record {
      sites = map new_site placements;
      parties = map new_party newcomers;
      sent = [];
      joint = [];
      logs = [];
    }
