-- The entries of a history as words of 32 bits, and how they are read back.
use Rattle.std.specs.Prelude.{◌≡◌, ℕ, ◌==◌, nat_lt, if◌then◌else◌, ⊤, List, [], ◌∷◌, ◌++◌, length, Option, Some, None, IfSome}
use Rattle.std.specs.List.{flat_map, AllByRecursion}
use Rattle.scoop_message.specs.declared.name.Block.{Block}
use Rattle.scoop_message.specs.declared.message.Message.{Message}
use Rattle.scoop_handler.specs.declared.note.Note.{Note}
use Rattle.scoop_handler.specs.declared.note.Heard.{Heard}
use Rattle.scoop_packed.specs.Packed.{IsSized, IsSizedMessage, block_words, message_words, note_words, ran_words}
use Rattle.scoop_packed.specs.Unpacked.{Read, block_at, handler_of_word, message_at, note_at, ran_at, reads, word_at}
use Rattle.scoop_book.specs.declared.event.Event.{Event}
use Rattle.scoop_book.specs.declared.event.Event.TheVariants.{Hear, Begin, Finish}
use Rattle.scoop_book.specs.declared.event.Reply.{Reply}
use Rattle.scoop_book.specs.declared.event.Reply.TheVariants.{Heard as HeardReply, Began, Finished}
use Rattle.scoop_book.specs.Moves.{Entry}

-- the kinds of events go on after those of messages
abbrev pub event_words : Event → List ℕ
event_words (Hear m) = message_words m
event_words (Begin h) = 12 ∷ h.0 ∷ []
event_words (Finish h) = 13 ∷ h.0 ∷ []

-- so do the kinds of replies
abbrev pub said_words : Option Message → List ℕ
said_words None = 12 ∷ []
said_words (Some m) = message_words m

abbrev pub reply_words : Reply → List ℕ
reply_words (HeardReply r) = said_words r.reply ++ note_words r.note
reply_words (Began None) = 13 ∷ []
reply_words (Began (Some k)) = 14 ∷ (block_words k.0 ++ (k.1 ∷ []))
reply_words (Finished r) = 15 ∷ ran_words r

-- the words of an entry after the number of its pass
abbrev pub moved_words : Entry → List ℕ
moved_words e = event_words e.1 ++ reply_words e.2

abbrev pub line_words : Entry → List ℕ
line_words e = e.0 ∷ moved_words e

-- ---- sizes that a program's entries have

abbrev pub IsSizedEvent : Event → Type 0
IsSizedEvent (Hear m) = IsSizedMessage m
IsSizedEvent (Begin h) = ⊤
IsSizedEvent (Finish h) = ⊤

abbrev pub IsSizedReply : Reply → Type 0
IsSizedReply (HeardReply r) = IfSome r.reply IsSizedMessage
IsSizedReply (Began k) = ⊤
IsSizedReply (Finished r) = IsSized r.entry

pub record IsSizedLine (e : Entry) : Type 0 where
  pub event : IsSizedEvent e.1
  pub reply : IsSizedReply e.2

-- ---- readers

unfoldable pub event_at : List ℕ → Read Event
event_at ws =
    let kind = word_at ws in
    if nat_lt kind.0 12 then (let m = message_at kind.0 kind.1 in (Hear m.0, m.1))
    else (
    let h = word_at kind.1 in
    if kind.0 == 12 then (Begin (handler_of_word h.0), h.1) else (Finish (handler_of_word h.0), h.1)
    )

abbrev pub heard_of : Option Message → Note → Heard
heard_of reply note = record { reply = reply; note = note }

abbrev pub left_at : List ℕ → Read (Block × ℕ)
left_at ws = let b = block_at ws in let i = word_at b.1 in ((b.0, i.0), i.1)

unfoldable pub reply_at : List ℕ → Read Reply
reply_at ws =
    let kind = word_at ws in
    if nat_lt kind.0 12 then (let m = message_at kind.0 kind.1 in let k = note_at m.1 in (HeardReply (heard_of (Some m.0) k.0), k.1))
    else if kind.0 == 12 then (let k = note_at kind.1 in (HeardReply (heard_of None k.0), k.1))
    else if kind.0 == 13 then (Began None, kind.1)
    else if kind.0 == 14 then (let k = left_at kind.1 in (Began (Some k.0), k.1))
    else (let r = ran_at kind.1 in (Finished r.0, r.1))

unfoldable pub line_at : List ℕ → Read Entry
line_at ws = let p = word_at ws in let e = event_at p.1 in let r = reply_at e.1 in ((p.0, e.0, r.0), r.1)

-- the entry of this pass whose event and reply these are
abbrev pub entry_of : ℕ → List ℕ → Entry
entry_of pass ws = let e = event_at ws in let r = reply_at e.1 in (pass, e.0, r.0)

-- that many entries
abbrev pub lines : ℕ → List ℕ → List Entry
lines count ws = (reads line_at count ws).0

-- ---- histories

-- the words are those of an entry's event and reply
pub record IsMoved (ws : List ℕ) : Type 0 where
  pub entry : Entry
  pub sized : IsSizedLine entry
  pub words_are : ws ≡ moved_words entry

-- the words are those of that many entries
pub record IsPacked (count : ℕ) (words : List ℕ) : Type 0 where
  pub entries : List Entry
  pub sized : AllByRecursion IsSizedLine entries
  pub count_is : length entries ≡ count
  pub words_are : words ≡ flat_map line_words entries

-- the entries, oldest first, and how many words fit without more memory
pub record HistoryValue : Type 0 where
  pub entries : List Entry
  pub room : ℕ

abbrev pub history_value : List Entry → ℕ → HistoryValue
history_value entries room = record { entries = entries; room = room }
