-- Messages, notes and entries that have run, as words of 32 bits.
use Rattle.std.specs.Prelude.{ℕ, ◌<◌, ◌≤◌, ◌^◌, ◌/◌, ◌%◌, ⊤, List, [], ◌∷◌, ◌++◌, length, Option, Some, None}
use Rattle.std.specs.List.{flat_map, AllByRecursion}
use Rattle.scoop_message.specs.declared.limits.TheConstants.{MAX_ARGS, MAX_ENTRIES}
use Rattle.scoop_message.specs.declared.name.HandlerId.{HandlerId}
use Rattle.scoop_message.specs.declared.name.Block.{Block}
use Rattle.scoop_message.specs.declared.request.Request.{Request}
use Rattle.scoop_message.specs.declared.request.Entry.{Entry as LogEntry}
use Rattle.scoop_message.specs.declared.request.Entry.TheVariants.{Call, Query, End}
use Rattle.scoop_message.specs.declared.request.Answer.{Answer}
use Rattle.scoop_message.specs.declared.request.Answer.TheVariants.{Refused, Value}
use Rattle.scoop_message.specs.declared.message.Message.{Message}
use Rattle.scoop_message.specs.declared.message.Message.TheVariants as m
use Rattle.scoop_message.specs.Entries.{EndOnlyLast}
use Rattle.scoop_handler.specs.declared.note.Note.{Note}
use Rattle.scoop_handler.specs.declared.note.Note.TheVariants as n
use Rattle.scoop_handler.specs.declared.note.Reason.TheVariants as why
use Rattle.scoop_handler.specs.declared.ran.Ran.{Ran}

-- the lower half first
abbrev pub long_words : ℕ → List ℕ
long_words x = x % 2 ^ 32 ∷ x / 2 ^ 32 ∷ []

abbrev pub block_words : Block → List ℕ
block_words b = b.client.0 ∷ b.inc ∷ b.num ∷ []

-- the operation, how many arguments there are, and each of them
abbrev pub request_words : Request → List ℕ
request_words r = r.op ∷ length r.args ∷ flat_map long_words r.args

abbrev pub logged_words : LogEntry → List ℕ
logged_words End = 0 ∷ []
logged_words (Call r) = 1 ∷ request_words r
logged_words (Query r) = 2 ∷ request_words r

abbrev pub answer_words : Answer → List ℕ
answer_words Refused = 0 ∷ []
answer_words (Value x) = 1 ∷ long_words x

-- a message that names a block: its kind, the handler and the block
abbrev pub named : ℕ → HandlerId → Block → List ℕ
named kind h b = kind ∷ h.0 ∷ block_words b

abbrev pub message_words : Message → List ℕ
message_words (m.Hello h c inc) = 0 ∷ h.0 ∷ c.0 ∷ inc ∷ 0 ∷ []
message_words (m.Welcome h c inc) = 1 ∷ h.0 ∷ c.0 ∷ inc ∷ 0 ∷ []
message_words (m.Lock h b) = named 2 h b
message_words (m.Locked h b) = named 3 h b
message_words (m.Busy h b) = named 4 h b
message_words (m.Open h b) = named 5 h b
message_words (m.Opened h b) = named 6 h b
message_words (m.Unlock h b) = named 7 h b
message_words (m.Unlocked h b) = named 8 h b
message_words (m.Log h b i es) = named 9 h b ++ (i ∷ length es ∷ flat_map logged_words es)
message_words (m.Logged h b i) = named 10 h b ++ (i ∷ [])
message_words (m.Answer h b i a) = named 11 h b ++ (i ∷ answer_words a)

abbrev pub note_words : Note → List ℕ
note_words n.Greeted = 0 ∷ []
note_words n.Granted = 1 ∷ []
note_words n.Held = 2 ∷ []
note_words (n.Opened b) = 3 ∷ block_words b
note_words n.Freed = 4 ∷ []
note_words (n.Took i) = 5 ∷ i ∷ []
note_words n.Known = 6 ∷ []
note_words (n.Dropped why.NotForHandlers) = 7 ∷ []
note_words (n.Dropped why.WrongHandler) = 8 ∷ []
note_words (n.Dropped why.TooManyClients) = 9 ∷ []
note_words (n.Dropped why.Stale) = 10 ∷ []
note_words (n.Dropped why.Ungreeted) = 11 ∷ []
note_words (n.Dropped why.NotHolder) = 12 ∷ []
note_words (n.Dropped why.QueueFull) = 13 ∷ []
note_words (n.Dropped why.NotOpen) = 14 ∷ []
note_words (n.Dropped why.Gap) = 15 ∷ []
note_words (n.Dropped why.PendingFull) = 16 ∷ []

-- the kind of none goes on after those of answers
abbrev pub given_words : Option Answer → List ℕ
given_words None = 2 ∷ []
given_words (Some a) = answer_words a

abbrev pub ran_words : Ran → List ℕ
ran_words r = block_words r.block ++ (r.number ∷ (logged_words r.entry ++ given_words r.answer))

-- ---- sizes that a program's values have

abbrev pub IsSized : LogEntry → Type 0
IsSized End = ⊤
IsSized (Call r) = (r.op ≤ 65535) × (length r.args ≤ MAX_ARGS)
IsSized (Query r) = (r.op ≤ 65535) × (length r.args ≤ MAX_ARGS)

pub record AreSized (es : List LogEntry) : Type 0 where
  pub some : 0 < length es
  pub limit : length es ≤ MAX_ENTRIES
  pub end : EndOnlyLast es
  pub each : AllByRecursion IsSized es

abbrev pub IsSizedMessage : Message → Type 0
IsSizedMessage (m.Hello h c inc) = ⊤
IsSizedMessage (m.Welcome h c inc) = ⊤
IsSizedMessage (m.Lock h b) = ⊤
IsSizedMessage (m.Locked h b) = ⊤
IsSizedMessage (m.Busy h b) = ⊤
IsSizedMessage (m.Open h b) = ⊤
IsSizedMessage (m.Opened h b) = ⊤
IsSizedMessage (m.Unlock h b) = ⊤
IsSizedMessage (m.Unlocked h b) = ⊤
IsSizedMessage (m.Log h b i es) = AreSized es
IsSizedMessage (m.Logged h b i) = ⊤
IsSizedMessage (m.Answer h b i a) = ⊤
