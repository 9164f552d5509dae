-- A journal that lines are appended to.
use Rattle.std.specs.Prelude.{◌≡◌, ℕ, ◌⊎◌, Bool, true, false, List, [], ◌∷◌, ◌++◌, Option}
use Rattle.std.specs.Io.KnownBytes.{Appends}
use Rattle.scoop_journal.specs.declared.line.Line.{Line}
use Rattle.scoop_journal.specs.declared.journal.AppendError.{AppendError}
use Rattle.scoop_journal.specs.declared.journal.AppendError.TheVariants.{OutOfMemory, NoFrame, Write}
use Rattle.scoop_journal.specs.Line.{text_of}

-- the writer, the text of the lines that are gathered, and whether the writer failed
pub record JournalState (W : Type 0) : Type 0 where
  pub writer : W
  pub text : List ℕ
  pub has_failed : Bool

abbrev pub journal_state : {W : Type 0} → W → List ℕ → Bool → JournalState W
journal_state writer text has_failed = record { writer = writer; text = text; has_failed = has_failed }

-- the text of a line with its newline
abbrev pub ended : Line → List ℕ
ended l = text_of l ++ 10 ∷ []

-- why a line isn't gathered
abbrev pub IsGatherError : AppendError → Type 0
IsGatherError e = (e ≡ OutOfMemory) ⊎ (e ≡ NoFrame)

-- the writer took this text, and hadn't failed before
pub record Commits {W : Type 0} (contents : W → Option (List ℕ)) (old new : JournalState W) (text : List ℕ) : Type 0 where
  pub written : Appends (contents old.writer) (contents new.writer) text
  pub whole : old.has_failed ≡ false
  pub still_whole : new.has_failed ≡ false
