-- The rules of SCOOP themselves, without messages and with a joint reservation in one step. A world stands for a configuration of
-- these rules.
use Rattle.std.specs.Prelude.{◌≡◌, ℕ, ◌+◌, ◌-◌, ◌<◌, ◌≤◌, ⊤, nat_le, Bool, true, false, not, ◌&&◌, ◌||◌, if◌then◌else◌, List, [], ◌∷◌, ◌++◌, length, map}
use Rattle.std.specs.Prelude.{filter, flat_map, take, drop, Option, Some, None, Ok, Err, Result}
use Rattle.std.specs.List.{list_any}
use Rattle.std.specs.Option.{option_map_or}
use Rattle.scoop_message.specs.declared.name.Block.{Block}
use Rattle.scoop_message.specs.declared.name.ClientId.{ClientId}
use Rattle.scoop_message.specs.declared.name.HandlerId.{HandlerId}
use Rattle.scoop_message.specs.declared.request.Entry.{Entry}
use Rattle.scoop_message.specs.declared.request.Entry.TheVariants.{Call as CallEntry, Query as QueryEntry, End as EndEntry}
use Rattle.scoop_message.specs.declared.message.Message.{Message}
use Rattle.scoop_message.specs.Entry.{is_end, is_query}
use Rattle.scoop_message.specs.Message.{same_client, same_handler, same_block, handler_of}
use Rattle.scoop_object.specs.Class.{ClassTable}
use Rattle.scoop_object.specs.Play.{entry_effect, play}
use Rattle.scoop_queue.specs.declared.state.QueueState.{QueueState}
use Rattle.scoop_queue.specs.declared.state.QueueState.TheVariants.{Open, Ended, Cut}
use Rattle.scoop_queue.specs.Queue.{is_open, goes_with}
use Rattle.scoop_handler.specs.declared.note.Note.{Note}
use Rattle.scoop_handler.specs.declared.note.Note.TheVariants.{Greeted, Granted, Held, Opened, Freed, Took, Known, Dropped}
use Rattle.scoop_handler.specs.declared.ran.Ran.{Ran}
use Rattle.scoop_reserve.specs.Handlers.{has}
use Rattle.scoop_client.specs.declared.command.Command.{Command}
use Rattle.scoop_client.specs.declared.command.Command.TheVariants.{Reserve, Call, Query, End, GiveUp}
use Rattle.scoop_model.specs.declared.event.Event.{Event}
use Rattle.scoop_model.specs.declared.event.Event.TheVariants.{Do, Tick, Take, Begin, Finish, ClientRestart, NodeRestart}
use Rattle.scoop_model.specs.declared.note.WorldNote.{WorldNote}
use Rattle.scoop_model.specs.declared.note.WorldNote.TheVariants as note
use Rattle.scoop_model.specs.declared.error.WorldError.{WorldError}
use Rattle.scoop_model.specs.World.{World, Party, site_of, party_of, ran_at, has_block, set_of, log_of, sent_at, is_succeeded, received, has_end, inc_of}
use Rattle.scoop_model.specs.Step.{newest_block, step}
use Rattle.scoop_model.specs.Safe.{entries_of}

-- a private queue: the entries that were logged and have not run, and whether more may come
pub record Waiting : Type 0 where
  pub block : Block
  pub entries : List Entry
  pub state : QueueState

-- the queue of queues and what has run, at each handler; the blocks that were reserved, each in one step; and
-- each client's incarnation
pub record Configuration : Type 0 where
  pub queues : HandlerId → List Waiting
  pub ran : HandlerId → List Ran
  pub separated : List Block
  pub inc : ClientId → ℕ

-- each handler's class, and the words that its object begins with
pub record Objects : Type 0 where
  pub class : HandlerId → ClassTable
  pub words : HandlerId → List ℕ

pub data Move : Type 0 where
  Separate : Block → List HandlerId → Move
  LogOne : Block → HandlerId → Entry → Move
  RunOne : HandlerId → Move
  Restart : ClientId → Move
  CutTo : Block → HandlerId → ℕ → Move

-- ---- the moves

-- a map once another value is put at one handler, or at one client
abbrev pub put_at_handler : {A : Type 0} → HandlerId → A → (HandlerId → A) → HandlerId → A
put_at_handler h a f x = if same_handler x h then a else f x

abbrev pub put_at_client : {A : Type 0} → ClientId → A → (ClientId → A) → ClientId → A
put_at_client c a f x = if same_client x c then a else f x

abbrev pub is_of : Block → Waiting → Bool
is_of b q = same_block q.block b

abbrev pub new_queue : Block → Waiting
new_queue b = record { block = b; entries = []; state = Open }

-- an empty open queue at the end, at each handler of the block, in one step
abbrev pub separate : Block → List HandlerId → Configuration → Configuration
separate b hs g =
    record g {
      queues = λ h. if has hs h then g.queues h ++ new_queue b ∷ [] else g.queues h;
      separated = g.separated ++ b ∷ [];
    }

-- one more entry in the block's queue, which an End closes
abbrev pub logged_to : Block → Entry → Waiting → Waiting
logged_to b e q =
    if is_of b q then record q { entries = q.entries ++ e ∷ []; state = if is_end e then Ended else q.state }
    else q

abbrev pub log_one : Block → HandlerId → Entry → Configuration → Configuration
log_one b h e g = record g { queues = put_at_handler h (map (logged_to b e) (g.queues h)) g.queues }

-- how many entries of the block have run
abbrev pub count_of : Block → List Ran → ℕ
count_of b rs = length (filter (λ r. same_block r.block b) rs)

-- the block's next entry as it runs, after all that ran before it
abbrev pub next_ran : ClassTable → List ℕ → List Ran → Block → Entry → Ran
next_ran class words rs b e =
    record { block = b; number = count_of b rs + 1; entry = e; answer = (entry_effect class (play class words (entries_of rs)) e).1 }

-- the queue without its first entry: it goes with its End, and a cut one with its last entry
abbrev pub rest_of : Waiting → Entry → List Entry → List Waiting
rest_of q e es = if goes_with q.state e es then [] else record q { entries = es } ∷ []

abbrev pub run_entries : Objects → HandlerId → Waiting → List Entry → List Waiting → Configuration → Configuration
run_entries o h q [] qs g = g
run_entries o h q (e ∷ es) qs g =
    record g {
      queues = put_at_handler h (rest_of q e es ++ qs) g.queues;
      ran = put_at_handler h (g.ran h ++ next_ran (o.class h) (o.words h) (g.ran h) q.block e ∷ []) g.ran;
    }

-- the first entry of the first queue runs
abbrev pub run_first : Objects → HandlerId → List Waiting → Configuration → Configuration
run_first o h [] g = g
run_first o h (q ∷ qs) g = run_entries o h q q.entries qs g

abbrev pub restart : ClientId → Configuration → Configuration
restart c g = record g { inc = put_at_client c (g.inc c + 1) g.inc }

-- a queue after a cut: none, if no entry is kept
abbrev pub cut_queue : Block → List Entry → List Waiting
cut_queue b [] = []
cut_queue b (e ∷ es) = record { block = b; entries = e ∷ es; state = Cut } ∷ []

-- the block's queue keeps its first k entries
abbrev pub cut_waiting : Block → ℕ → Waiting → List Waiting
cut_waiting b k q = if is_of b q then cut_queue q.block (take k q.entries) else q ∷ []

-- of all that was ever logged for the block here, the first k entries are kept
abbrev pub cut_to : Block → HandlerId → ℕ → Configuration → Configuration
cut_to b h k g = record g { queues = put_at_handler h (flat_map (cut_waiting b (k - count_of b (g.ran h))) (g.queues h)) g.queues }

abbrev pub moved : Objects → Move → Configuration → Configuration
moved o (Separate b hs) g = separate b hs g
moved o (LogOne b h e) g = log_one b h e g
moved o (RunOne h) g = run_first o h (g.queues h) g
moved o (Restart c) g = restart c g
moved o (CutTo b h k) g = cut_to b h k g

-- ---- when a move may be made

-- the block has a queue there that takes more entries
abbrev pub has_open : Block → List Waiting → Bool
has_open b qs = list_any (λ q. is_of b q && is_open q.state) qs

-- a query of the block has not run
abbrev pub waits : Block → List Waiting → Bool
waits b qs = list_any (λ q. is_of b q && list_any is_query q.entries) qs

-- the first queue has an entry
abbrev pub has_entry : List Waiting → Bool
has_entry [] = false
has_entry (q ∷ qs) = nat_le 1 (length q.entries)

-- a block is reserved once; a client logs only for a block of its incarnation, while no query of the block waits;
-- and only a block of an older incarnation is cut, behind what has run
abbrev pub May : Move → Configuration → Type 0
May (Separate b hs) g = has_block g.separated b ≡ false
May (LogOne b h e) g = (g.inc b.client ≡ b.inc) × (has_open b (g.queues h) ≡ true) × ((x : HandlerId) → waits b (g.queues x) ≡ false)
May (RunOne h) g = has_entry (g.queues h) ≡ true
May (Restart c) g = ⊤
May (CutTo b h k) g = (b.inc < g.inc b.client) × (count_of b (g.ran h) ≤ k)

-- the moves, each of which may be made, lead from one configuration to the other
abbrev pub MovesLead : Objects → Configuration → List Move → Configuration → Type 0
MovesLead o g [] end = g ≡ end
MovesLead o g (m ∷ ms) end = May m g × MovesLead o (moved o m g) ms end

-- ---- what a world stands for

-- a block as a world shows it at one handler: its logged entries, how many have run, and whether its End has. The last
-- two fields: whether a newer incarnation of its client has greeted, and how many entries the handler acknowledged
pub record Seen : Type 0 where
  pub logged : List Entry
  pub count : ℕ
  pub over : Bool
  pub newer : Bool
  pub received : ℕ

abbrev pub has_ended : Block → List Ran → Bool
has_ended b rs = list_any (λ r. same_block r.block b && is_end r.entry) rs

abbrev pub seen : Block → HandlerId → World → Seen
seen b h w =
    record {
      logged = log_of b h w;
      count = count_of b (ran_at h w);
      over = has_ended b (ran_at h w);
      newer = is_succeeded b h w;
      received = received b h w;
    }

-- a newer incarnation has greeted before the End was received
abbrev pub is_cut_off : Seen → Bool
is_cut_off s = s.newer && not (has_end (take s.received s.logged))

-- the entries of the block that have run or will run
abbrev pub kept : Seen → List Entry
kept s = if is_cut_off s then take s.received s.logged else s.logged

-- its End has run, or all that the cut left
abbrev pub is_gone : Seen → Bool
is_gone s = s.over || (is_cut_off s && nat_le (length (take s.received s.logged)) s.count)

abbrev pub state_of : Seen → QueueState
state_of s = if is_cut_off s then Cut else if has_end s.logged then Ended else Open

-- the block's queue there, unless it is gone
abbrev pub queue_of : Block → Seen → List Waiting
queue_of b s = if is_gone s then [] else record { block = b; entries = drop s.count (kept s); state = state_of s } ∷ []

abbrev pub queue_at : World → HandlerId → Block → List Waiting
queue_at w h b = if has (set_of b w) h then queue_of b (seen b h w) else []

-- the queues stand in the order of the common list
abbrev pub configuration_of : World → Configuration
configuration_of w =
    record { queues = λ h. flat_map (queue_at w h) w.joint; ran = λ h. ran_at h w; separated = w.joint; inc = inc_of w }

abbrev pub no_class : ClassTable
no_class = record { words = 0; rows = [] }

abbrev pub objects_of : World → Objects
objects_of w =
    record {
      class = λ h. option_map_or (λ s. s.core.class) (site_of h w) no_class;
      words = λ h. option_map_or (λ s. s.placed) (site_of h w) [];
    }

-- ---- the moves of an event, from world v to world w

-- at its first opening a block is cut wherever a newer incarnation of its client has greeted already
abbrev pub late_cuts : World → Block → List Move
late_cuts v b = map (λ h. CutTo b h 0) (filter (λ h. is_succeeded b h v) (set_of b v))

-- the event cuts the block off at the handler
abbrev pub is_cut_by : World → World → HandlerId → Block → Bool
is_cut_by v w h b = has (set_of b v) h && (is_cut_off (seen b h w) && not (is_cut_off (seen b h v)))

abbrev pub greeting_cuts : World → World → HandlerId → List Move
greeting_cuts v w h = map (λ b. CutTo b h (received b h v)) (filter (is_cut_by v w h) v.joint)

-- the effect of a message to the handler
abbrev pub note_moves : World → World → HandlerId → Note → List Move
note_moves v w h (Opened b) = if has_block v.joint b then [] else Separate b (set_of b v) ∷ late_cuts v b
note_moves v w h Greeted = greeting_cuts v w h
note_moves v w h Granted = []
note_moves v w h Held = []
note_moves v w h Freed = []
note_moves v w h (Took n) = []
note_moves v w h Known = []
note_moves v w h (Dropped why) = []

abbrev pub message_moves : World → World → Option Message → WorldNote → List Move
message_moves v w None told = []
message_moves v w (Some m) (note.Handler told i) = note_moves v w (handler_of m) told
message_moves v w (Some m) note.Done = []
message_moves v w (Some m) note.Silent = []
message_moves v w (Some m) (note.Sent i) = []
message_moves v w (Some m) (note.Client told) = []
message_moves v w (Some m) (note.Began b n) = []
message_moves v w (Some m) (note.Ran r) = []
message_moves v w (Some m) (note.Restarted inc) = []
message_moves v w (Some m) note.Reopened = []

-- an End is logged at each handler of the block
abbrev pub command_moves : World → Block → Command → List Move
command_moves v b (Reserve hs) = []
command_moves v b (Call h r) = LogOne b h (CallEntry r) ∷ []
command_moves v b (Query h r) = LogOne b h (QueryEntry r) ∷ []
command_moves v b End = map (λ h. LogOne b h EndEntry) (set_of b v)
command_moves v b GiveUp = []

abbrev pub client_moves : World → Command → Option Party → List Move
client_moves v x None = []
client_moves v x (Some p) = command_moves v (newest_block p.client) x

abbrev pub moves_of : World → World → Event → WorldNote → List Move
moves_of v w (Do c x) told = client_moves v x (party_of c v)
moves_of v w (Tick c h) told = []
moves_of v w (Take i) told = message_moves v w (sent_at i v) told
moves_of v w (Begin h) told = []
moves_of v w (Finish h) told = RunOne h ∷ []
moves_of v w (ClientRestart c) told = Restart c ∷ []
moves_of v w (NodeRestart n) told = []

-- the event takes the configuration that the one world stands for to that of the other, by its moves
abbrev pub Follows : World → Event → World → WorldNote → Type 0
Follows v e w told = MovesLead (objects_of v) (configuration_of v) (moves_of v w e told) (configuration_of w)

-- an event that isn't refused follows the rules
abbrev pub FollowsRules : World → Event → Type 0
FollowsRules v e = elim (step v e) [ Ok r ↦ Follows v e r.0 r.1 | Err x ↦ ⊤ ]

-- nothing was reserved yet, and nothing has run
abbrev pub empty_configuration : (ClientId → ℕ) → Configuration
empty_configuration inc = record { queues = λ h. []; ran = λ h. []; separated = []; inc = inc }

-- ---- events one after another

-- the moves of the events before the first that is refused
abbrev pub moves_in : World → List Event → List Move
moves_in v [] = []
moves_in v (e ∷ es) = elim (step v e) [ Ok r ↦ moves_of v r.0 e r.1 ++ moves_in r.0 es | Err x ↦ [] ]

-- the configuration after the moves
abbrev pub replayed : Objects → List Move → Configuration → Configuration
replayed o [] g = g
replayed o (m ∷ ms) g = replayed o ms (moved o m g)

-- from the configuration in which the clients have their incarnations and nothing was reserved, the moves of the
-- events lead by the rules to the one that the last world stands for
abbrev pub RunsByRules : World → List Event → World → Type 0
RunsByRules v es w = MovesLead (objects_of v) (empty_configuration (inc_of v)) (moves_in v es) (configuration_of w)

-- the moves of the events lead by the rules from the configuration that the one world stands for to that of the other
abbrev pub LeadsByRules : World → List Event → World → Type 0
LeadsByRules v es w = MovesLead (objects_of v) (configuration_of v) (moves_in v es) (configuration_of w)

-- so do those of all events, or of those before the first that is refused
abbrev pub FollowsRun : World → List Event → Result ℕ (ℕ × WorldError) → World → Type 0
FollowsRun v es (Ok n) w = LeadsByRules v es w
FollowsRun v es (Err stop) w = LeadsByRules v (take stop.0 es) w
