-- A keeper that writes a journal, over a record that another program may take over.
use Rattle.std.specs.Prelude.{◌≡◌, ℕ, Bool, true, false, if◌then◌else◌, List, [], ◌++◌, Option, Result, Ok}
use Rattle.scoop_message.specs.declared.name.HandlerId.{HandlerId}
use Rattle.scoop_keeper.specs.declared.keeper.KeeperError.{KeeperError}
use Rattle.scoop_journal.specs.Journal.{Commits, JournalState}

-- The keeper under it, its journal, its node and the node's handlers. `has_begun`: the first lines of the node's life are
-- gathered or written. `is_waiting`: lines are gathered that aren't written. `is_told`: an event was noted whose state isn't
-- stored yet.
pub record SharedRecord (K W : Type 0) : Type 0 where
  pub keeper : K
  pub journal : JournalState W
  pub node : ℕ
  pub handlers : List HandlerId
  pub has_begun : Bool
  pub is_waiting : Bool
  pub is_told : Bool

abbrev pub shared : {K W : Type 0} → K → JournalState W → ℕ → List HandlerId → Bool → Bool → Bool → SharedRecord K W
shared keeper journal node handlers has_begun is_waiting is_told = record {
  keeper = keeper;
  journal = journal;
  node = node;
  handlers = handlers;
  has_begun = has_begun;
  is_waiting = is_waiting;
  is_told = is_told;
}

-- with another keeper under it
abbrev pub with_keeper : {K W : Type 0} → K → SharedRecord K W → SharedRecord K W
with_keeper keeper j = shared keeper j.journal j.node j.handlers j.has_begun j.is_waiting j.is_told

-- a note may be written only after the keeper has said that it owns its record: lines wait, or the first ones are to be gathered
abbrev pub owes : {K W : Type 0} → SharedRecord K W → Bool
owes j = if j.has_begun then j.is_waiting else true

-- these lines are in front of a note's: those that waited, or the first lines of the node's life
abbrev pub IsFront : {K W : Type 0} → SharedRecord K W → List ℕ → Type 0
IsFront old front = old.has_begun ≡ true → front ≡ old.journal.text

-- this text waits after the lines in front of it, and nothing was written
pub record Gathers {K W : Type 0} (old new : SharedRecord K W) (text : List ℕ) : Type 0 where
  pub front : List ℕ
  pub begun : IsFront old front
  pub waits : new.journal.text ≡ front ++ text
  pub marked : new.is_waiting ≡ true
  pub writer : new.journal.writer ≡ old.journal.writer
  pub failed : new.journal.has_failed ≡ old.journal.has_failed

-- the writer took the lines in front and this text, and no line waits
pub record WritesAll {K W : Type 0} (contents : W → Option (List ℕ)) (old new : SharedRecord K W) (text : List ℕ) : Type 0 where
  pub front : List ℕ
  pub begun : IsFront old front
  pub written : Commits contents old.journal new.journal (front ++ text)
  pub all : new.journal.text ≡ []
  pub unmarked : new.is_waiting ≡ false

-- nothing was written, and the lines that waited wait
pub record Untouched {K W : Type 0} (old new : SharedRecord K W) : Type 0 where
  pub writer : new.journal.writer ≡ old.journal.writer
  pub waits : old.has_begun ≡ true → new.journal ≡ old.journal

-- This keeper was asked, and owned its record. `gives` relates the keeper before the call, the result and the keeper
-- after.
abbrev pub IsConfirmed : {K : Type 0} → (K → Result (Unit {0}) KeeperError → K → Type 0) → K → Type 0
IsConfirmed {K} gives before = (after : K) × gives before (Ok tt) after

-- this keeper is one that was asked, and owned its record
abbrev pub HasConfirmed : {K : Type 0} → (K → Result (Unit {0}) KeeperError → K → Type 0) → K → Type 0
HasConfirmed {K} gives after = (before : K) × gives before (Ok tt) after
