-- The table by which a handler hears, one row for each case: the message, the state, and the outcome. Every message has
-- a row, so a law of each row holds of `hear`.
use Rattle.std.specs.Prelude.{⊤, ◌≡◌, ◌≢◌, ◌⊎◌, ◌<◌, ◌≤◌, ◌+◌, ℕ, ◌&&◌, not, if◌then◌else◌, List, length, Option, Some, None, is_none, IsTrue, IsFalse}
use Rattle.scoop_message.specs.declared.limits.TheConstants.{MAX_MARKS, MAX_QUEUES}
use Rattle.scoop_message.specs.declared.name.Block.{Block}
use Rattle.scoop_message.specs.declared.name.ClientId.{ClientId}
use Rattle.scoop_message.specs.declared.name.HandlerId.{HandlerId}
use Rattle.scoop_message.specs.declared.request.Entry.{Entry}
use Rattle.scoop_message.specs.declared.request.Answer.{Answer as QueryAnswer}
use Rattle.scoop_message.specs.declared.message.Message.{Message}
use Rattle.scoop_message.specs.declared.message.Message.TheVariants.{Hello, Welcome, Lock, Locked, Busy, Open, Opened, Unlock, Unlocked, Log, Logged, Answer}
use Rattle.scoop_message.specs.Entries.{last_number}
use Rattle.scoop_message.specs.Message.{handler_of, is_for_handler, named_block}
use Rattle.scoop_handler.specs.declared.mark.Mark.{Mark}
use Rattle.scoop_handler.specs.declared.mark.Stage.TheVariants.{Held as AtHeld, Open as AtOpen, Shut as AtShut}
use Rattle.scoop_handler.specs.declared.note.Note.TheVariants.{Held}
use Rattle.scoop_handler.specs.declared.note.Reason.TheVariants.{NotForHandlers, WrongHandler, TooManyClients, Ungreeted, Stale, NotHolder, QueueFull}
use Rattle.scoop_handler.specs.declared.note.Reason.TheVariants.{NotOpen, Gap, PendingFull}
use Rattle.scoop_handler.specs.Marks.{mark_of}
use Rattle.scoop_handler.specs.State.{HandlerState, is_unfinished}
use Rattle.scoop_handler.specs.Hearing.{Hearing, IsHeardAt, dropped, replied, known, greeted_first, greeted_newer, granted, opened_here, skipped, freed}
use Rattle.scoop_handler.specs.Hearing.{took, kept_answer, new_entries, is_closed, has_no_room}

-- the block that asks the handler for something
abbrev pub asking_block : Message → Option Block
asking_block m = if is_for_handler m then named_block m else None

-- the block's incarnation has not greeted
abbrev pub IsUngreeted : Block → Option Mark → Type 0
IsUngreeted b None = ⊤
IsUngreeted b (Some k) = k.inc < b.inc

-- a newer incarnation, or a newer block of the same one, came before
abbrev pub IsPast : Block → Mark → Type 0
IsPast b k = (b.inc < k.inc) ⊎ ((k.inc ≡ b.inc) × (b.num < k.num))

-- the block is its client's newest, and open
pub record IsLogAt (s : HandlerState) (b : Block) (k : Mark) : Type 0 where
  pub heard : IsHeardAt s b k
  pub num : k.num ≡ b.num
  pub stage : k.stage ≡ AtOpen

-- some of the entries are new, and none is missing before them
pub record IsNext (k : Mark) (n : ℕ) (es : List Entry) : Type 0 where
  pub new : k.received < last_number n es
  pub no_gap : n ≤ k.received + 1

pub data Row (s : HandlerState) : Message → Hearing → Type 0 where
  kind_for_clients : (m : Message) → IsFalse (is_for_handler m) → Row s m (dropped s NotForHandlers)
  another_handler : (m : Message) → IsTrue (is_for_handler m) → handler_of m ≢ s.number → Row s m (dropped s WrongHandler)
  too_many_clients : (h : HandlerId) (c : ClientId) (inc : ℕ) → h ≡ s.number → mark_of c s.marks ≡ None → length s.marks ≡ MAX_MARKS →
      Row s (Hello h c inc) (dropped s TooManyClients)
  first_greeting : (h : HandlerId) (c : ClientId) (inc : ℕ) → h ≡ s.number → mark_of c s.marks ≡ None → length s.marks ≢ MAX_MARKS →
      Row s (Hello h c inc) (greeted_first s c inc)
  newer_greeting : (h : HandlerId) (c : ClientId) (inc : ℕ) (k : Mark) → h ≡ s.number → mark_of c s.marks ≡ Some k → k.inc < inc →
      Row s (Hello h c inc) (greeted_newer s c inc k)
  repeated_greeting : (h : HandlerId) (c : ClientId) (inc : ℕ) (k : Mark) → h ≡ s.number → mark_of c s.marks ≡ Some k → k.inc ≡ inc →
      Row s (Hello h c inc) (known s (Welcome s.number c inc))
  stale_greeting : (h : HandlerId) (c : ClientId) (inc : ℕ) (k : Mark) → h ≡ s.number → mark_of c s.marks ≡ Some k → inc < k.inc →
      Row s (Hello h c inc) (dropped s Stale)
  ungreeted : (m : Message) (b : Block) → handler_of m ≡ s.number → asking_block m ≡ Some b → IsUngreeted b (mark_of b.client s.marks) →
      Row s m (dropped s Ungreeted)
  stale : (m : Message) (b : Block) (k : Mark) → handler_of m ≡ s.number → asking_block m ≡ Some b → mark_of b.client s.marks ≡ Some k → IsPast b k →
      Row s m (dropped s Stale)
  lock_granted : (h : HandlerId) (b : Block) (k : Mark) → h ≡ s.number → IsHeardAt s b k → k.num < b.num → s.holder ≡ None → IsFalse (is_unfinished s k) →
      Row s (Lock h b) (granted s b)
  lock_refused : (h : HandlerId) (b : Block) (k : Mark) → h ≡ s.number → IsHeardAt s b k → k.num < b.num →
      IsFalse (is_none s.holder && not (is_unfinished s k)) →
      Row s (Lock h b) (replied s (Busy s.number b) Held)
  repeated_lock : (h : HandlerId) (b : Block) (k : Mark) → h ≡ s.number → IsHeardAt s b k → k.num ≡ b.num → k.stage ≡ AtHeld →
      Row s (Lock h b) (known s (Locked s.number b))
  late_lock : (h : HandlerId) (b : Block) (k : Mark) → h ≡ s.number → IsHeardAt s b k → k.num ≡ b.num → k.stage ≢ AtHeld →
      Row s (Lock h b) (dropped s Stale)
  open_without_lock : (h : HandlerId) (b : Block) (k : Mark) → h ≡ s.number → IsHeardAt s b k → (k.num < b.num) ⊎ (k.stage ≡ AtShut) →
      Row s (Open h b) (dropped s NotHolder)
  no_room_for_a_queue : (h : HandlerId) (b : Block) (k : Mark) → h ≡ s.number → IsHeardAt s b k → k.num ≡ b.num → k.stage ≡ AtHeld →
      length s.queues ≡ MAX_QUEUES →
      Row s (Open h b) (dropped s QueueFull)
  is_opened : (h : HandlerId) (b : Block) (k : Mark) → h ≡ s.number → IsHeardAt s b k → k.num ≡ b.num → k.stage ≡ AtHeld → length s.queues ≢ MAX_QUEUES →
      Row s (Open h b) (opened_here s b k)
  repeated_open : (h : HandlerId) (b : Block) (k : Mark) → h ≡ s.number → IsHeardAt s b k → k.num ≡ b.num → k.stage ≡ AtOpen →
      Row s (Open h b) (known s (Opened s.number b))
  unlock_while_unfinished : (h : HandlerId) (b : Block) (k : Mark) → h ≡ s.number → IsHeardAt s b k → k.num < b.num → IsTrue (is_unfinished s k) →
      Row s (Unlock h b) (dropped s NotHolder)
  unlock_of_a_block_never_held : (h : HandlerId) (b : Block) (k : Mark) → h ≡ s.number → IsHeardAt s b k → k.num < b.num → IsFalse (is_unfinished s k) →
      Row s (Unlock h b) (skipped s b)
  is_freed : (h : HandlerId) (b : Block) (k : Mark) → h ≡ s.number → IsHeardAt s b k → k.num ≡ b.num → s.holder ≡ Some b →
      Row s (Unlock h b) (freed s b k)
  repeated_unlock : (h : HandlerId) (b : Block) (k : Mark) → h ≡ s.number → IsHeardAt s b k → k.num ≡ b.num → s.holder ≢ Some b →
      Row s (Unlock h b) (known s (Unlocked s.number b))
  log_of_a_block_not_open : (h : HandlerId) (b : Block) (n : ℕ) (es : List Entry) (k : Mark) → h ≡ s.number → IsHeardAt s b k →
      (k.num < b.num) ⊎ (k.stage ≢ AtOpen) →
      Row s (Log h b n es) (dropped s NotOpen)
  is_answered : (h : HandlerId) (b : Block) (n : ℕ) (es : List Entry) (k : Mark) (a : QueryAnswer) → h ≡ s.number → IsLogAt s b k →
      last_number n es ≤ k.received → k.kept ≡ Some (last_number n es, a) →
      Row s (Log h b n es) (known s (Answer s.number b (last_number n es) a))
  already_received : (h : HandlerId) (b : Block) (n : ℕ) (es : List Entry) (k : Mark) → h ≡ s.number → IsLogAt s b k → last_number n es ≤ k.received →
      kept_answer (last_number n es) k.kept ≡ None →
      Row s (Log h b n es) (known s (Logged s.number b k.received))
  has_gap : (h : HandlerId) (b : Block) (n : ℕ) (es : List Entry) (k : Mark) → h ≡ s.number → IsLogAt s b k → k.received < last_number n es →
      k.received + 1 < n →
      Row s (Log h b n es) (dropped s Gap)
  after_the_end : (h : HandlerId) (b : Block) (n : ℕ) (es : List Entry) (k : Mark) → h ≡ s.number → IsLogAt s b k → IsNext k n es →
      IsTrue (is_closed k (last_number n es) es) →
      Row s (Log h b n es) (dropped s NotOpen)
  pending_full : (h : HandlerId) (b : Block) (n : ℕ) (es : List Entry) (k : Mark) → h ≡ s.number → IsLogAt s b k → IsNext k n es →
      IsFalse (is_closed k (last_number n es) es) → IsTrue (has_no_room s b (length (new_entries n es k))) →
      Row s (Log h b n es) (dropped s PendingFull)
  is_taken : (h : HandlerId) (b : Block) (n : ℕ) (es : List Entry) (k : Mark) → h ≡ s.number → IsLogAt s b k → IsNext k n es →
      IsFalse (is_closed k (last_number n es) es) → IsFalse (has_no_room s b (length (new_entries n es k))) →
      Row s (Log h b n es) (took s b n es k)
