-- A history's entries are read back as they were entered.
use Rattle.std.proofs.Common.{◌≡◌, ℕ, zero, suc, ◌+◌, ◌-◌, ◌<◌, ◌≤◌, List, [], ◌∷◌, ◌++◌, length, Option, Some, None, refl, ap, sym, take, ◌∙◌, arith}
use Rattle.std.proofs.Common.{length-append}
use Rattle.std.specs.Prelude.{IfSome}
use Rattle.std.specs.List.{flat_map, AllByRecursion}
use Rattle.std.proofs.lemmas.List.{append_assoc, append-nil, take_at}
use Rattle.std.proofs.lemmas.Grind.{flat_map-append}
use Rattle.scoop_message.specs.declared.message.Message.{Message}
use Rattle.scoop_handler.specs.declared.note.Note.{Note}
use Rattle.scoop_handler.specs.declared.ran.Ran.{Ran}
use Rattle.scoop_keeper.proofs.Lists.{all_more}
use Rattle.scoop_packed.specs.Packed.{IsSizedMessage, message_words, note_words}
use Rattle.scoop_packed.specs.Unpacked.{Read, word_at}
use Rattle.scoop_packed.proofs.Packing.{message_back, message_kind, note_back, ran_back, reads_back}
use Rattle.scoop_book.specs.declared.event.Event.{Event}
use Rattle.scoop_book.specs.declared.event.Event.TheVariants.{Hear, Begin, Finish}
use Rattle.scoop_book.specs.declared.event.Reply.{Reply}
use Rattle.scoop_book.specs.declared.event.Reply.TheVariants.{Heard as HeardReply, Began, Finished}
use Rattle.scoop_book.specs.Moves.{Entry, moved}
use Rattle.scoop_book.specs.Lines.{IsMoved, IsPacked, IsSizedEvent, IsSizedLine, IsSizedReply, entry_of, event_at, event_words, heard_of, line_at, line_words}
use Rattle.scoop_book.specs.Lines.{lines, moved_words, reply_at, reply_words, said_words}

event_back : (e : Event) (ws : List ℕ) → IsSizedEvent e → event_at (event_words e ++ ws) ≡ (e, ws)
unfolding event_at
event_back (Hear m) ws s = rw (message_kind m ws) (ap (λ (p : Read Message). (Hear p.0, p.1)) (message_back m ws s))
event_back (Begin h) ws s = refl
event_back (Finish h) ws s = refl

heard_back : (reply : Option Message) (note : Note) (ws : List ℕ) → IfSome reply IsSizedMessage
    → reply_at ((said_words reply ++ note_words note) ++ ws) ≡ (HeardReply (heard_of reply note), ws)
unfolding reply_at
heard_back None note ws s = ap (λ (p : Read Note). (HeardReply (heard_of None p.0), p.1)) (note_back note ws)
heard_back (Some m) note ws s =
    rw (append_assoc (message_words m) (note_words note) ws, message_kind m (note_words note ++ ws), message_back m (note_words note ++ ws) s, note_back note ws)
    refl

reply_back : (r : Reply) (ws : List ℕ) → IsSizedReply r → reply_at (reply_words r ++ ws) ≡ (r, ws)
unfolding reply_at
reply_back (HeardReply r) ws s = heard_back r.reply r.note ws s
reply_back (Began None) ws s = refl
reply_back (Began (Some k)) ws s = refl
reply_back (Finished r) ws s = ap (λ (p : Read Ran). (Finished p.0, p.1)) (ran_back r ws s)

module _ (e : Entry) (ws : List ℕ) (s : IsSizedLine e) where
  event_then : event_at (moved_words e ++ ws) ≡ (e.1, reply_words e.2 ++ ws)
  event_then = rw (append_assoc (event_words e.1) (reply_words e.2) ws) (event_back e.1 (reply_words e.2 ++ ws) s.event)

  pub entry_back : (pass : ℕ) → entry_of pass (moved_words e ++ ws) ≡ (pass, e.1, e.2)
  entry_back pass = rw (event_then, reply_back e.2 ws s.reply) refl

  pub moved_left : (reply_at (event_at (moved_words e ++ ws)).1).1 ≡ ws
  moved_left = rw (event_then, reply_back e.2 ws s.reply) refl

  line_back : line_at (line_words e ++ ws) ≡ (e, ws)
  unfolding line_at
  line_back = rw (event_then, reply_back e.2 ws s.reply) refl

each_back : (es : List Entry) → AllByRecursion IsSizedLine es → AllByRecursion (λ e. (ws : List ℕ) → line_at (line_words e ++ ws) ≡ (e, ws)) es
each_back [] s = tt
each_back (e ∷ es) s = ((λ ws. line_back e ws s.0), each_back es s.1)

all_back : (es : List Entry) → AllByRecursion IsSizedLine es → lines (length es) (flat_map line_words es) ≡ es
all_back es s =
    ap (λ (ws : List ℕ). lines (length es) ws) (sym (append-nil (flat_map line_words es)))
    ∙ ap (λ (p : Read (List Entry)). p.0) (reads_back line_at line_words es [] (each_back es s))

-- a history of no words
pub packed_none : IsPacked 0 []
packed_none = record { entries = []; sized = tt; count_is = refl; words_are = refl }

module _ (count : ℕ) (words : List ℕ) (packed : IsPacked count words) where
  pub lines_are : lines count words ≡ packed.entries
  lines_are = rw (packed.words_are, ← packed.count_is) (all_back packed.entries packed.sized)

  pub lines_count : length (lines count words) ≡ count
  lines_count = ap length lines_are ∙ packed.count_is

-- an entry more
module _ (count : ℕ) (words : List ℕ) (packed : IsPacked count words) (e : Entry) (sized : IsSizedLine e) where
  pub packed_more : IsPacked (count + 1) (words ++ line_words e)
  packed_more = record {
    entries = packed.entries ++ e ∷ [];
    sized = all_more IsSizedLine packed.entries e packed.sized sized;
    count_is = length-append packed.entries (e ∷ []) ∙ ap (λ (n : ℕ). n + 1) packed.count_is;
    words_are =
        ap (λ (ws : List ℕ). ws ++ line_words e) packed.words_are
        ∙ (ap (λ (ws : List ℕ). flat_map line_words packed.entries ++ ws) (sym (append-nil (line_words e)))
        ∙ sym (flat_map-append line_words packed.entries (e ∷ [])));
  }

  pub lines_more : lines (count + 1) (words ++ line_words e) ≡ lines count words ++ e ∷ []
  unfolding packed_more
  lines_more = lines_are (count + 1) (words ++ line_words e) packed_more ∙ ap (λ (es : List Entry). es ++ e ∷ []) (sym (lines_are count words packed))

-- each entry is a word at least
at_least : (es : List Entry) → length es ≤ length (flat_map line_words es)
at_least [] = omega arith
at_least (e ∷ es) =
    let more : length es ≤ length (flat_map line_words es) = at_least es in
    omega (arith, length-append (line_words e) (flat_map line_words es))

pub count_fits : (count : ℕ) (words : List ℕ) → IsPacked count words → count ≤ length words
count_fits count words packed = rw (packed.words_are, ← packed.count_is) (at_least packed.entries)

-- the next entry of those that are left
pub next_line : (count : ℕ) (ws : List ℕ) → 0 < count → lines count ws ≡ (line_at ws).0 ∷ lines (count - 1) (line_at ws).1
next_line zero ws some = absurd (omega arith)
next_line (suc n) ws some = ap (λ (k : ℕ). (line_at ws).0 ∷ lines k (line_at ws).1) (omega arith)

-- ---- an entry's words without the number of its pass

entry_alone : (e : Entry) → IsSizedLine e → (pass : ℕ) → entry_of pass (moved_words e) ≡ (pass, e.1, e.2)
entry_alone e s pass = ap (entry_of pass) (sym (append-nil (moved_words e))) ∙ entry_back e [] s pass

abbrev words_of : Event × Reply → List ℕ
words_of p = event_words p.0 ++ reply_words p.1

words_again : (ws : List ℕ) → IsMoved ws → ws ≡ words_of (moved (entry_of 0 ws))
words_again ws m = rw m.words_are (sym (ap (λ (e : Entry). words_of (moved e)) (entry_alone m.entry m.sized 0)))

-- the same event with the same reply has the same words
pub same_words : (ws vs : List ℕ) → IsMoved ws → IsMoved vs → moved (entry_of 0 ws) ≡ moved (entry_of 0 vs) → ws ≡ vs
same_words ws vs m k same = words_again ws m ∙ (ap words_of same ∙ sym (words_again vs k))

-- ---- the next entry of packed words

pub record Front (count : ℕ) (ws : List ℕ) : Type 0 where
  pub entry : Entry
  pub sized : IsSizedLine entry
  pub rest : List ℕ
  pub words_are : ws ≡ line_words entry ++ rest
  pub packed : IsPacked (count - 1) rest

front_of : (count : ℕ) (ws : List ℕ) (es : List Entry) → 0 < count → AllByRecursion IsSizedLine es → length es ≡ count → ws ≡ flat_map line_words es
    → Front count ws
front_of count ws [] some s is words = absurd (omega (arith, is))
front_of count ws (e ∷ es) some s is words = record {
  entry = e;
  sized = s.0;
  rest = flat_map line_words es;
  words_are = words;
  packed = record { entries = es; sized = s.1; count_is = omega (arith, is); words_are = refl };
}

pub front : (count : ℕ) (ws : List ℕ) → IsPacked count ws → 0 < count → Front count ws
front count ws packed some = front_of count ws packed.entries some packed.sized packed.count_is packed.words_are

module _ (count : ℕ) (ws : List ℕ) (f : Front count ws) where
  line_is : line_at ws ≡ (f.entry, f.rest)
  line_is = rw f.words_are (line_back f.entry f.rest f.sized)

  pub line_packed : IsPacked (count - 1) (line_at ws).1
  line_packed = rw line_is f.packed

  -- the number of its pass, and the words after that
  word_is : word_at ws ≡ (f.entry.0, moved_words f.entry ++ f.rest)
  word_is = rw f.words_are refl

  after_is : (reply_at (event_at (word_at ws).1).1).1 ≡ f.rest
  after_is = rw word_is (moved_left f.entry f.rest f.sized)

  pub moved_packed : IsPacked (count - 1) (reply_at (event_at (word_at ws).1).1).1
  moved_packed = rw after_is f.packed

  pub moved_fits : length (reply_at (event_at (word_at ws).1).1).1 ≤ length (word_at ws).1
  moved_fits = rw (after_is, word_is) (omega (arith, length-append (moved_words f.entry) f.rest))

  taken_is : take (length (word_at ws).1 - length (reply_at (event_at (word_at ws).1).1).1) (word_at ws).1 ≡ moved_words f.entry
  taken_is = rw (after_is, word_is) (take_at (moved_words f.entry) f.rest _ (omega (arith, length-append (moved_words f.entry) f.rest)))

  pub taken_is_moved : IsMoved (take (length (word_at ws).1 - length (reply_at (event_at (word_at ws).1).1).1) (word_at ws).1)
  taken_is_moved = record { entry = f.entry; sized = f.sized; words_are = taken_is }

  entry_is : entry_of f.entry.0 (moved_words f.entry) ≡ f.entry
  entry_is = entry_alone f.entry f.sized f.entry.0

  pub next_moved : 0 < count → lines count ws
      ≡ entry_of (word_at ws).0 (take (length (word_at ws).1 - length (reply_at (event_at (word_at ws).1).1).1) (word_at ws).1)
      ∷ lines (count - 1) (reply_at (event_at (word_at ws).1).1).1
  next_moved some =
      next_line count ws some
      ∙ (ap (λ (p : Read Entry). p.0 ∷ lines (count - 1) p.1) line_is
      ∙ rw (taken_is, ap (λ (p : Read ℕ). p.0) word_is, entry_is, after_is) refl)
