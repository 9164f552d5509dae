-- How words are read back. A reader returns a value and the words that are left. Past the end it reads 0.
use Rattle.std.specs.Prelude.{ℕ, zero, suc, ◌+◌, ◌*◌, ◌^◌, ◌==◌, ◌&&◌, nat_lt, nat_le, if◌then◌else◌, List, [], ◌∷◌, length, Option, Some, None}
use Rattle.scoop_message.specs.declared.limits.TheConstants.{MAX_ARGS, MAX_ENTRIES}
use Rattle.scoop_message.specs.declared.name.HandlerId.{HandlerId}
use Rattle.scoop_message.specs.declared.name.Block.{Block}
use Rattle.scoop_message.specs.declared.request.Request.{Request}
use Rattle.scoop_message.specs.declared.request.Entry.{Entry as LogEntry}
use Rattle.scoop_message.specs.declared.request.Entry.TheVariants.{Call, Query, End}
use Rattle.scoop_message.specs.declared.request.Answer.{Answer}
use Rattle.scoop_message.specs.declared.request.Answer.TheVariants.{Refused, Value}
use Rattle.scoop_message.specs.declared.message.Message.{Message}
use Rattle.scoop_message.specs.declared.message.Message.TheVariants as m
use Rattle.scoop_message.specs.Entries.{end_only_last}
use Rattle.scoop_handler.specs.declared.note.Note.{Note}
use Rattle.scoop_handler.specs.declared.note.Note.TheVariants as n
use Rattle.scoop_handler.specs.declared.note.Reason.TheVariants as why
use Rattle.scoop_handler.specs.declared.ran.Ran.{Ran}

abbrev pub Read : Type 0 → Type 0
Read X = X × List ℕ

abbrev pub word_at : List ℕ → Read ℕ
word_at [] = (0, [])
word_at (w ∷ ws) = (w, ws)

-- that many values, one after another
abbrev pub reads : {X : Type 0} → (List ℕ → Read X) → ℕ → List ℕ → Read (List X)
reads read zero ws = ([], ws)
reads read (suc n) ws = let x = read ws in let xs = reads read n x.1 in (x.0 ∷ xs.0, xs.1)

abbrev pub long_at : List ℕ → Read ℕ
long_at ws = let low = word_at ws in let high = word_at low.1 in (low.0 + high.0 * 2 ^ 32, high.1)

-- the number, or 0 if it is past the limit
abbrev pub bounded : ℕ → ℕ → ℕ
bounded limit n = if nat_le n limit then n else 0

abbrev pub block_of : ℕ → ℕ → ℕ → Block
block_of client inc num = record { client = record { 0 = client }; inc = inc; num = num }

abbrev pub block_at : List ℕ → Read Block
block_at ws = let c = word_at ws in let i = word_at c.1 in let k = word_at i.1 in (block_of c.0 i.0 k.0, k.1)

abbrev pub request_of : ℕ → List ℕ → Request
request_of op args = record { op = op; args = args }

abbrev pub request_at : List ℕ → Read Request
request_at ws =
    let op = word_at ws in let count = word_at op.1 in let args = reads long_at (bounded MAX_ARGS count.0) count.1 in
    (request_of (bounded 65535 op.0) args.0, args.1)

abbrev pub logged_at : List ℕ → Read LogEntry
logged_at ws =
    let kind = word_at ws in
    if kind.0 == 0 then (End, kind.1)
    else (let r = request_at kind.1 in if kind.0 == 1 then (Call r.0, r.1) else (Query r.0, r.1))

-- the entries, or an End if they are those of no Log
abbrev pub whole : List LogEntry → List LogEntry
whole es = if nat_lt 0 (length es) && nat_le (length es) MAX_ENTRIES && end_only_last es then es else End ∷ []

abbrev pub entries_at : List ℕ → Read (List LogEntry)
entries_at ws = let count = word_at ws in let es = reads logged_at (bounded MAX_ENTRIES count.0) count.1 in (whole es.0, es.1)

-- the answer of this kind
abbrev pub answer_at : ℕ → List ℕ → Read Answer
answer_at kind ws = if kind == 0 then (Refused, ws) else (let x = long_at ws in (Value x.0, x.1))

-- a message of the first kinds, which have no entries and no answer
abbrev pub short_at : ℕ → HandlerId → Block → Message
short_at kind h b =
    if kind == 0 then m.Hello h b.client b.inc
    else if kind == 1 then m.Welcome h b.client b.inc
    else if kind == 2 then m.Lock h b
    else if kind == 3 then m.Locked h b
    else if kind == 4 then m.Busy h b
    else if kind == 5 then m.Open h b
    else if kind == 6 then m.Opened h b
    else if kind == 7 then m.Unlock h b
    else m.Unlocked h b

abbrev pub handler_of_word : ℕ → HandlerId
handler_of_word w = record { 0 = w }

-- the message of this kind
abbrev pub message_at : ℕ → List ℕ → Read Message
message_at kind ws =
    let h = word_at ws in let b = block_at h.1 in
    if nat_lt kind 9 then (short_at kind (handler_of_word h.0) b.0, b.1)
    else (
    let i = word_at b.1 in
    if kind == 9 then (let es = entries_at i.1 in (m.Log (handler_of_word h.0) b.0 i.0 es.0, es.1))
    else if kind == 10 then (m.Logged (handler_of_word h.0) b.0 i.0, i.1)
    else (let k = word_at i.1 in let a = answer_at k.0 k.1 in (m.Answer (handler_of_word h.0) b.0 i.0 a.0, a.1))
    )

-- a note that its kind determines
abbrev pub plain_note : ℕ → Note
plain_note kind =
    if kind == 0 then n.Greeted
    else if kind == 1 then n.Granted
    else if kind == 2 then n.Held
    else if kind == 4 then n.Freed
    else if kind == 6 then n.Known
    else if kind == 7 then n.Dropped why.NotForHandlers
    else if kind == 8 then n.Dropped why.WrongHandler
    else if kind == 9 then n.Dropped why.TooManyClients
    else if kind == 10 then n.Dropped why.Stale
    else if kind == 11 then n.Dropped why.Ungreeted
    else if kind == 12 then n.Dropped why.NotHolder
    else if kind == 13 then n.Dropped why.QueueFull
    else if kind == 14 then n.Dropped why.NotOpen
    else if kind == 15 then n.Dropped why.Gap
    else n.Dropped why.PendingFull

abbrev pub note_at : List ℕ → Read Note
note_at ws =
    let kind = word_at ws in
    if kind.0 == 3 then (let b = block_at kind.1 in (n.Opened b.0, b.1))
    else if kind.0 == 5 then (let i = word_at kind.1 in (n.Took i.0, i.1))
    else (plain_note kind.0, kind.1)

abbrev pub ran_of_parts : Block → ℕ → LogEntry → Option Answer → Ran
ran_of_parts block number entry answer = record { block = block; number = number; entry = entry; answer = answer }

abbrev pub given_at : List ℕ → Read (Option Answer)
given_at ws =
    let kind = word_at ws in
    if kind.0 == 2 then (None, kind.1) else (let a = answer_at kind.0 kind.1 in (Some a.0, a.1))

abbrev pub ran_at : List ℕ → Read Ran
ran_at ws =
    let b = block_at ws in let i = word_at b.1 in let e = logged_at i.1 in let a = given_at e.1 in
    (ran_of_parts b.0 i.0 e.0 a.0, a.1)
