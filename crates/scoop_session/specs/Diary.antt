-- The diary of a client that writes a journal.
use Rattle.std.specs.Prelude.{◌≡◌, ℕ, ◌⊎◌, true, ⊤, List, [], ◌++◌, Option, Some, None}
use Rattle.scoop_message.specs.declared.message.Message.{Message}
use Rattle.scoop_client.specs.State.{ClientState}
use Rattle.scoop_driver.specs.declared.step.Received.{Received}
use Rattle.scoop_driver.specs.declared.step.Received.TheVariants as received
use Rattle.scoop_journal.specs.declared.line.Arrival.{Arrival}
use Rattle.scoop_journal.specs.declared.line.Arrival.TheVariants.{Nothing, Frame, NoFrame, Fault}
use Rattle.scoop_journal.specs.declared.line.Line.{Line}
use Rattle.scoop_journal.specs.declared.journal.AppendError.{AppendError}
use Rattle.scoop_journal.specs.Journal.{Commits, JournalState, ended, journal_state}
use Rattle.scoop_session.specs.Saying.{SaysNothingNew, due_to}

-- the arrival that a journal records for what the client received
abbrev pub arrival_of : Received → Arrival
arrival_of received.Nothing = Nothing
arrival_of (received.Frame v m) = Frame v m
arrival_of (received.NoFrame d) = NoFrame
arrival_of received.Fault = Fault

-- the journal, if there is one, gathers the line
abbrev pub Gathers : {W : Type 0} → Option (JournalState W) → Option (JournalState W) → Line → Type 0
Gathers None None l = ⊤
Gathers (Some old) (Some new) l = new ≡ journal_state old.writer (old.text ++ ended l) old.has_failed
Gathers None (Some new) l = ⊥
Gathers (Some old) None l = ⊥

-- the journal, if there is one, took all that was gathered
abbrev pub TakesAll : {W : Type 0} → (W → Option (List ℕ)) → Option (JournalState W) → Option (JournalState W) → Type 0
TakesAll contents None None = ⊤
TakesAll contents (Some old) (Some new) = Commits contents old new old.text × (new.text ≡ [])
TakesAll contents None (Some new) = ⊥
TakesAll contents (Some old) None = ⊥

-- the writer failed, if there is a journal
abbrev pub HasFailed : {W : Type 0} → Option (JournalState W) → Type 0
HasFailed None = ⊥
HasFailed (Some j) = j.has_failed ≡ true

-- at the end of a client that lost no line, the journal took all that was gathered, or its writer failed
abbrev pub Ends : {W : Type 0} → (W → Option (List ℕ)) → Option AppendError → Option (JournalState W) → Option (JournalState W) → Type 0
Ends contents failure old new = failure ≡ None → (TakesAll contents old new ⊎ HasFailed new)

-- The client is ready to send: nothing new is due, or the journal took all that was gathered, and what is due is said
-- by now.
abbrev pub IsReady : {W : Type 0} → (W → Option (List ℕ)) → ClientState → List Message → List Message → Option (JournalState W) → Option (JournalState W)
    → Type 0
IsReady contents c said now None new = new ≡ None
IsReady contents c said now (Some old) new =
    (SaysNothingNew said c c.handlers × (now ≡ said) × (new ≡ Some old)) ⊎ (TakesAll contents (Some old) new × (now ≡ due_to c c.handlers))

-- nothing is gathered
abbrev pub IsWritten : {W : Type 0} → Option (JournalState W) → Type 0
IsWritten None = ⊤
IsWritten (Some j) = j.text ≡ []

-- the journal has every line, unless one isn't written
abbrev pub IsSettled : {W : Type 0} → Option AppendError → Option (JournalState W) → Type 0
IsSettled failure j = failure ≡ None → IsWritten j
