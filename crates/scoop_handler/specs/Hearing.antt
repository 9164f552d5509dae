-- The effect of a message on a handler: its new state, the reply and the note. The first case that fits decides.
use Rattle.std.specs.Prelude.{◌≡◌, ◌≤◌, ◌+◌, ◌-◌, ◌^◌, ℕ, Bool, ◌&&◌, ◌||◌, not, ◌==◌, nat_lt, nat_le, if◌then◌else◌, List, length, drop, Option, Some}
use Rattle.std.specs.Prelude.{None, is_none, Result, Ok, Err}
use Rattle.scoop_message.specs.declared.limits.TheConstants.{MAX_MARKS, MAX_QUEUES, MAX_PENDING}
use Rattle.scoop_message.specs.declared.name.Block.{Block}
use Rattle.scoop_message.specs.declared.name.ClientId.{ClientId}
use Rattle.scoop_message.specs.declared.name.HandlerId.{HandlerId}
use Rattle.scoop_message.specs.declared.request.Entry.{Entry}
use Rattle.scoop_message.specs.declared.request.Answer.{Answer as QueryAnswer}
use Rattle.scoop_message.specs.declared.message.Message.{Message}
use Rattle.scoop_message.specs.declared.message.Message.TheVariants.{Hello, Welcome, Lock, Locked, Busy, Open, Opened, Unlock, Unlocked, Log, Logged, Answer}
use Rattle.scoop_message.specs.Entries.{ends, last_number}
use Rattle.scoop_message.specs.Message.{same_client, same_handler}
use Rattle.scoop_queue.specs.Queue.{opened, put_all, cut, pending}
use Rattle.scoop_handler.specs.declared.mark.Mark.{Mark}
use Rattle.scoop_handler.specs.declared.mark.Stage.TheVariants.{Held as AtHeld, Shut as AtShut}
use Rattle.scoop_handler.specs.declared.note.Heard.{Heard}
use Rattle.scoop_handler.specs.declared.note.Note.{Note}
use Rattle.scoop_handler.specs.declared.note.Note.TheVariants.{Greeted, Granted, Held, Opened as OpenedNote, Freed, Took, Known, Dropped}
use Rattle.scoop_handler.specs.declared.note.Reason.{Reason}
use Rattle.scoop_handler.specs.declared.note.Reason.TheVariants.{NotForHandlers, WrongHandler, TooManyClients, Ungreeted, Stale, NotHolder, QueueFull}
use Rattle.scoop_handler.specs.declared.note.Reason.TheVariants.{NotOpen, Gap, PendingFull}
use Rattle.scoop_handler.specs.Marks.{is_held, is_open, block_of, fresh_mark, opened_mark, with_received, without_hold, mark_of, set_mark, add_mark}
use Rattle.scoop_handler.specs.State.{HandlerState, is_holder, is_unfinished}

abbrev pub Hearing : Type 0
Hearing = HandlerState × Heard

-- ---- outcomes

abbrev pub dropped : HandlerState → Reason → Hearing
dropped s why = (s, record { reply = None; note = Dropped why })

abbrev pub replied : HandlerState → Message → Note → Hearing
replied s reply note = (s, record { reply = Some reply; note = note })

-- the state stays, since the message asks for what holds already
abbrev pub known : HandlerState → Message → Hearing
known s reply = replied s reply Known

-- one client's mark changes, and perhaps the holder
abbrev pub moved : HandlerState → Option Block → Mark → HandlerState
moved s holder k = record s { holder = holder; marks = set_mark k s.marks }

abbrev pub with_mark : HandlerState → Mark → HandlerState
with_mark s k = record s { marks = add_mark k s.marks }

-- the holder, unless it is a block of that client
abbrev pub holder_without : ClientId → Option Block → Option Block
holder_without c None = None
holder_without c (Some b) = if same_client b.client c then None else Some b

-- a greeting is about a block that has no number yet
abbrev pub greeting_block : ClientId → ℕ → Block
greeting_block c inc = record { client = c; inc = inc; num = 0 }

-- the mark of an incarnation that has no block yet
abbrev pub greeting_mark : ClientId → ℕ → Mark
greeting_mark c inc = fresh_mark (greeting_block c inc) AtShut

abbrev pub greeted_first : HandlerState → ClientId → ℕ → Hearing
greeted_first s c inc = replied (with_mark s (greeting_mark c inc)) (Welcome s.number c inc) Greeted

-- a newer incarnation frees its client's lock, and cuts the private queue of the client's newest block
abbrev pub with_incarnation : HandlerState → ClientId → ℕ → Mark → HandlerState
with_incarnation s c inc k =
    record s { holder = holder_without c s.holder; marks = set_mark (greeting_mark c inc) s.marks; queues = cut (block_of k) s.queues }

abbrev pub greeted_newer : HandlerState → ClientId → ℕ → Mark → Hearing
greeted_newer s c inc k = replied (with_incarnation s c inc k) (Welcome s.number c inc) Greeted

abbrev pub granted : HandlerState → Block → Hearing
granted s b = replied (moved s (Some b) (fresh_mark b AtHeld)) (Locked s.number b) Granted

-- the block gets a private queue
abbrev pub with_queue : HandlerState → Block → Mark → HandlerState
with_queue s b k = record s { marks = set_mark (opened_mark k) s.marks; queues = opened b s.queues }

abbrev pub opened_here : HandlerState → Block → Mark → Hearing
opened_here s b k = replied (with_queue s b k) (Opened s.number b) (OpenedNote b)

-- a block that never held the lock is past asking for it
abbrev pub skipped : HandlerState → Block → Hearing
skipped s b = replied (moved s s.holder (fresh_mark b AtShut)) (Unlocked s.number b) Freed

abbrev pub freed : HandlerState → Block → Mark → Hearing
freed s b k = replied (moved s None (without_hold k)) (Unlocked s.number b) Freed

-- ---- the table, a function for each kind of message

abbrev pub hear_hello : HandlerState → ClientId → ℕ → Option Mark → Hearing
hear_hello s c inc None =
    if length s.marks == MAX_MARKS then dropped s TooManyClients
    else greeted_first s c inc
hear_hello s c inc (Some k) =
    if nat_lt k.inc inc then greeted_newer s c inc k
    else if k.inc == inc then known s (Welcome s.number c inc)
    else dropped s Stale

-- the block is newer than the mark's, in the same incarnation
abbrev pub is_new : Block → Mark → Bool
is_new b k = nat_lt k.num b.num

abbrev pub hear_lock : HandlerState → Block → Mark → Hearing
hear_lock s b k =
    if is_new b k && (is_none s.holder && not (is_unfinished s k)) then granted s b
    else if is_new b k then replied s (Busy s.number b) Held
    else if is_held k.stage then known s (Locked s.number b)
    else dropped s Stale

abbrev pub hear_open : HandlerState → Block → Mark → Hearing
hear_open s b k =
    if is_new b k then dropped s NotHolder
    else if is_open k.stage then known s (Opened s.number b)
    else if not (is_held k.stage) then dropped s NotHolder
    else if length s.queues == MAX_QUEUES then dropped s QueueFull
    else opened_here s b k

abbrev pub hear_unlock : HandlerState → Block → Mark → Hearing
hear_unlock s b k =
    if is_new b k && is_unfinished s k then dropped s NotHolder
    else if is_new b k then skipped s b
    else if is_holder s.holder b then freed s b k
    else known s (Unlocked s.number b)

-- ---- entries of a block, the first of which has a number

-- the answer that is kept for the query of this number
abbrev pub kept_answer : ℕ → Option (ℕ × QueryAnswer) → Option QueryAnswer
kept_answer n None = None
kept_answer n (Some kept) = if kept.0 == n then Some kept.1 else None

-- entries that were all received: the answer of the last, if it is kept, or how many were received
abbrev pub received_before : HandlerState → Block → ℕ → Mark → Option QueryAnswer → Hearing
received_before s b last k None = known s (Logged s.number b k.received)
received_before s b last k (Some a) = known s (Answer s.number b last a)

-- the entries that were not received yet
abbrev pub new_entries : ℕ → List Entry → Mark → List Entry
new_entries n es k = drop (k.received + 1 - n) es

-- the block takes no more, or there are no numbers for these entries and an End
abbrev pub is_closed : Mark → ℕ → List Entry → Bool
is_closed k last es = k.ended || (nat_le (2 ^ 32) last || (last == 2 ^ 32 - 1 && not (ends es)))

-- entries go after those of the block's private queue, and one mark changes
abbrev pub with_put : HandlerState → Block → List Entry → Mark → HandlerState
with_put s b es k = record s { marks = set_mark k s.marks; queues = put_all b es s.queues }

abbrev pub with_entries : HandlerState → Block → ℕ → List Entry → Mark → HandlerState
with_entries s b n es k = with_put s b (new_entries n es k) (with_received (last_number n es) (ends es) k)

abbrev pub took : HandlerState → Block → ℕ → List Entry → Mark → Hearing
took s b n es k = replied (with_entries s b n es k) (Logged s.number b (last_number n es)) (Took (last_number n es))

-- the private queue has no room for this many more
abbrev pub has_no_room : HandlerState → Block → ℕ → Bool
has_no_room s b more = nat_lt MAX_PENDING (pending b s.queues + more)

abbrev pub hear_log : HandlerState → Block → ℕ → List Entry → Mark → Hearing
hear_log s b n es k =
    if is_new b k || not (is_open k.stage) then dropped s NotOpen
    else if nat_le (last_number n es) k.received then received_before s b (last_number n es) k (kept_answer (last_number n es) k.kept)
    else if nat_lt (k.received + 1) n then dropped s Gap
    else if is_closed k (last_number n es) es then dropped s NotOpen
    else if has_no_room s b (length (new_entries n es k)) then dropped s PendingFull
    else took s b n es k

-- ---- the row of a message

-- the mark for a message of this block, or why the message is dropped
abbrev pub mark_for : Block → Option Mark → Result Mark Reason
mark_for b None = Err Ungreeted
mark_for b (Some k) =
    if nat_lt k.inc b.inc then Err Ungreeted
    else if nat_lt b.inc k.inc || nat_lt b.num k.num then Err Stale
    else Ok k

-- the block is of the client's incarnation at mark k, and no older than the mark
pub record IsHeardAt (s : HandlerState) (b : Block) (k : Mark) : Type 0 where
  pub found : mark_of b.client s.marks ≡ Some k
  pub inc : k.inc ≡ b.inc
  pub num : k.num ≤ b.num

abbrev pub hear_at : HandlerState → Result Mark Reason → (Mark → Hearing) → Hearing
hear_at s (Err why) heard = dropped s why
hear_at s (Ok k) heard = heard k

abbrev pub hear_of : HandlerState → Block → (Mark → Hearing) → Hearing
hear_of s b heard = hear_at s (mark_for b (mark_of b.client s.marks)) heard

abbrev pub if_here : HandlerState → HandlerId → Hearing → Hearing
if_here s h heard = if same_handler h s.number then heard else dropped s WrongHandler

abbrev pub hear : HandlerState → Message → Hearing
hear s (Hello h c inc) = if_here s h (hear_hello s c inc (mark_of c s.marks))
hear s (Welcome h c inc) = dropped s NotForHandlers
hear s (Lock h b) = if_here s h (hear_of s b (hear_lock s b))
hear s (Locked h b) = dropped s NotForHandlers
hear s (Busy h b) = dropped s NotForHandlers
hear s (Open h b) = if_here s h (hear_of s b (hear_open s b))
hear s (Opened h b) = dropped s NotForHandlers
hear s (Unlock h b) = if_here s h (hear_of s b (hear_unlock s b))
hear s (Unlocked h b) = dropped s NotForHandlers
hear s (Log h b n es) = if_here s h (hear_of s b (hear_log s b n es))
hear s (Logged h b n) = dropped s NotForHandlers
hear s (Answer h b n a) = dropped s NotForHandlers
