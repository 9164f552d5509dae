-- The lives that the journal of a node tells, entry by entry.
use Rattle.std.specs.Prelude.{◌≡◌, ⊤, ℕ, List, [], ◌∷◌, ◌++◌}
use Rattle.std.specs.List.{AllByRecursion}
use Rattle.scoop_message.specs.declared.name.HandlerId.{HandlerId}
use Rattle.scoop_message.specs.declared.message.Message.{Message}
use Rattle.scoop_handler.specs.Local.{LocalHandler, number_in}
use Rattle.scoop_book.specs.Moves.{Entry}
use Rattle.scoop_journal.specs.declared.line.Line.{Line}
use Rattle.scoop_journal.specs.declared.line.Line.TheVariants.{NodeLife, ClientLife, Open, Hear, Begin, Finish, Do, Turn, Broke}
use Rattle.scoop_replay.specs.Node.{BeganSo, GoesOn, HeardSo, IsNodeTale, IsStoredAs, NodeTale, NodeValue, OpensAgain, RanSo, after_entry, after_reopening}
use Rattle.scoop_audit.specs.Lines.{IsJournalOf, text_of_all}

-- the line tells this entry
abbrev pub IsEntryOf : Line → Entry → Type 0
IsEntryOf (NodeLife n) e = ⊥
IsEntryOf (ClientLife c inc batch) e = ⊥
IsEntryOf (Open h image pending) e = ⊥
IsEntryOf (Hear m reply) e = HeardSo m reply e
IsEntryOf (Begin h) e = BeganSo h e
IsEntryOf (Finish h) e = RanSo h e
IsEntryOf (Do x) e = ⊥
IsEntryOf (Turn a) e = ⊥
IsEntryOf (Broke place) e = ⊥

-- the line tells an entry
abbrev pub TellsEntry : Line → Type 0
TellsEntry (NodeLife n) = ⊥
TellsEntry (ClientLife c inc batch) = ⊥
TellsEntry (Open h image pending) = ⊥
TellsEntry (Hear m reply) = ⊤
TellsEntry (Begin h) = ⊤
TellsEntry (Finish h) = ⊤
TellsEntry (Do x) = ⊥
TellsEntry (Turn a) = ⊥
TellsEntry (Broke place) = ⊥

-- the line opens the handler with the state that it has
abbrev pub OpensAs : Line → LocalHandler → Type 0
OpensAs (NodeLife n) l = ⊥
OpensAs (ClientLife c inc batch) l = ⊥
OpensAs (Open h image pending) l = (h ≡ number_in l) × IsStoredAs l image.now pending.now
OpensAs (Hear m reply) l = ⊥
OpensAs (Begin h) l = ⊥
OpensAs (Finish h) l = ⊥
OpensAs (Do x) l = ⊥
OpensAs (Turn a) l = ⊥
OpensAs (Broke place) l = ⊥

-- the lines open these handlers, or the first ones of them: a life may end before it has written them all
abbrev pub Opens : List Line → List LocalHandler → Type 0
Opens [] ls = ⊤
Opens (x ∷ xs) [] = ⊥
Opens (x ∷ xs) (l ∷ ls) = OpensAs x l × Opens xs ls

-- From this tale these lines lead to that one. The last entries of a life are left out if they were not stored: the next life
-- opens with the states before them.
pub data TellsNode (words : HandlerId → List ℕ) (number : ℕ) (start : NodeTale) : List Line → NodeTale → Type 0 where
  tells_nothing : TellsNode words number start [] start
  tells_entry : (lines : List Line) (t : NodeTale) (l : Line) (e : Entry) (hs : List LocalHandler) → TellsNode words number start lines t → IsEntryOf l e →
      TellsNode words number start (lines ++ l ∷ []) (after_entry e hs t)
  tells_life : (lines unstored opens : List Line) (t : NodeTale) → TellsNode words number start lines t → AllByRecursion TellsEntry unstored →
      Opens opens (after_reopening words t).handlers →
      TellsNode words number start (lines ++ (unstored ++ NodeLife number ∷ opens)) (after_reopening words t)

-- ---- the steps of a replay

-- from each tale of the node the entry of this line leads to the one with it
abbrev pub EntersBy : Line → (old new : NodeValue) → (post more : List Message) → Type 0
EntersBy (NodeLife n) old new post more = ⊥
EntersBy (ClientLife c inc batch) old new post more = ⊥
EntersBy (Open h image pending) old new post more = ⊥
EntersBy (Hear m reply) old new post more = GoesOn (HeardSo m reply) old new post more
EntersBy (Begin h) old new post more = GoesOn (BeganSo h) old new post more
EntersBy (Finish h) old new post more = GoesOn (RanSo h) old new post more
EntersBy (Do x) old new post more = ⊥
EntersBy (Turn a) old new post more = ⊥
EntersBy (Broke place) old new post more = ⊥

-- the lines before this rest tell entries, which are left out
pub record PassesOver (bytes rest : List ℕ) : Type 0 where
  pub lines : List Line
  pub bytes_are : bytes ≡ text_of_all lines ++ rest
  pub are : AllByRecursion TellsEntry lines

-- the lines before this rest open the first of these handlers
pub record OpensFrom (bytes rest : List ℕ) (ls : List LocalHandler) : Type 0 where
  pub opens : List Line
  pub bytes_are : bytes ≡ text_of_all opens ++ rest
  pub are : Opens opens ls

-- a tale of the node, to which these lines led from that one
pub record ToldNode
    (words : HandlerId → List ℕ) (opening : List LocalHandler) (t : NodeTale) (lines : List Line) (now : NodeValue) (post : List Message) : Type 0 where
  pub tale : NodeTale
  pub handlers_are : tale.handlers ≡ now.handlers
  pub is_tale : IsNodeTale words now.number opening tale post now.trail
  pub tells : TellsNode words now.number t lines tale

-- from each tale of the node the lines lead to such a one
pub record ReadsNode (lines : List Line) (old new : NodeValue) (post more : List Message) : Type 0 where
  pub number : new.number ≡ old.number
  pub told : (words : HandlerId → List ℕ) (opening : List LocalHandler) (t : NodeTale) → t.handlers ≡ old.handlers
      → IsNodeTale words old.number opening t post old.trail → ToldNode words opening t lines new more

-- the lines up to this rest of the journal were read
pub record NodeUpTo (bytes rest : List ℕ) (old new : NodeValue) (post more : List Message) : Type 0 where
  pub lines : List Line
  pub bytes_are : bytes ≡ text_of_all lines ++ rest
  pub reads : ReadsNode lines old new post more

-- the node opens again, with the states that the lines up to this rest show
pub record BeginsLife (number : ℕ) (bytes rest : List ℕ) (old new : NodeValue) (post more : List Message) : Type 0 where
  pub numbered : number ≡ old.number
  pub same : new.number ≡ old.number
  pub again : OpensAgain old new post more
  pub opened : OpensFrom bytes rest new.handlers

-- the journal was read to its end
pub record NodeRead (bytes : List ℕ) (old new : NodeValue) (post more : List Message) : Type 0 where
  pub lines : List Line
  pub journal : IsJournalOf bytes lines
  pub reads : ReadsNode lines old new post more
