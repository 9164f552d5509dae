-- A keeper that writes a journal.
use Rattle.std.specs.Prelude.{◌≡◌, ℕ, Bool, true, if◌then◌else◌, List, [], ◌++◌, Option}
use Rattle.std.specs.Io.KnownBytes.{Appends}
use Rattle.scoop_message.specs.declared.name.HandlerId.{HandlerId}
use Rattle.scoop_journal.specs.declared.line.Line.TheVariants.{Begin, Finish}
use Rattle.scoop_journal.specs.Journal.{Commits, JournalState, ended}
use Rattle.scoop_journal_keeper.specs.declared.journaled.Storage.{Storage}
use Rattle.scoop_journal_keeper.specs.declared.journaled.Storage.TheVariants.{File, Memory}

-- The keeper under it and where that keeps its states, its journal, its node and the node's handlers. `has_begun`: the first
-- lines of the node's life are written. `is_told`: an event was noted whose state isn't stored yet.
pub record JournaledRecord (K W : Type 0) : Type 0 where
  pub keeper : K
  pub storage : Storage
  pub journal : JournalState W
  pub node : ℕ
  pub handlers : List HandlerId
  pub has_begun : Bool
  pub is_told : Bool

abbrev pub journaled : {K W : Type 0} → K → Storage → JournalState W → ℕ → List HandlerId → Bool → Bool → JournaledRecord K W
journaled keeper storage journal node handlers has_begun is_told = record {
  keeper = keeper;
  storage = storage;
  journal = journal;
  node = node;
  handlers = handlers;
  has_begun = has_begun;
  is_told = is_told;
}

-- the lines that wait to be written; none do before the first lines of the node's life
abbrev pub waiting : {K W : Type 0} → JournaledRecord K W → List ℕ
waiting j = if j.has_begun then j.journal.text else []

-- the writer took this text, after the first lines of the node's life if they weren't written before, and no line waits
pub record Writes {K W : Type 0} (contents : W → Option (List ℕ)) (old new : JournaledRecord K W) (text : List ℕ) : Type 0 where
  pub middle : Option (List ℕ)
  pub begun : old.has_begun ≡ true → middle ≡ contents old.journal.writer
  pub written : Appends middle (contents new.journal.writer) text
  pub all : new.journal.text ≡ []

-- this text waits; the writer took the first lines of the node's life if they weren't written before, and nothing else
pub record Waits {K W : Type 0} (contents : W → Option (List ℕ)) (old new : JournaledRecord K W) (text : List ℕ) : Type 0 where
  pub begun : old.has_begun ≡ true → new.journal.writer ≡ old.journal.writer
  pub waits : new.journal.text ≡ text

-- the lines of an entry that has run
abbrev pub run_text : HandlerId → List ℕ
run_text h = ended (Begin h) ++ ended (Finish h)

-- that an entry has run is written, or over a storage in memory gathered
abbrev pub NotesRun : {W : Type 0} → (W → Option (List ℕ)) → Storage → JournalState W → JournalState W → HandlerId → Type 0
NotesRun contents File old new h = Commits contents old new (old.text ++ run_text h) × (new.text ≡ [])
NotesRun contents Memory old new h = (new.writer ≡ old.writer) × (new.text ≡ old.text ++ run_text h)

abbrev pub FinishesOver : {K W : Type 0} → (W → Option (List ℕ)) → Storage → JournaledRecord K W → JournaledRecord K W → HandlerId → Type 0
FinishesOver contents File old new h = Writes contents old new (waiting old ++ run_text h)
FinishesOver contents Memory old new h = Waits contents old new (waiting old ++ run_text h)

-- an entry of this handler has run
abbrev pub Finishes : {K W : Type 0} → (W → Option (List ℕ)) → JournaledRecord K W → JournaledRecord K W → HandlerId → Type 0
Finishes contents old new h = FinishesOver contents old.storage old new h
