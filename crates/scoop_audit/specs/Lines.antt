-- The lines of a journal.
use Rattle.std.specs.Prelude.{◌≡◌, ℕ, List, ◌++◌, length}
use Rattle.std.specs.List.{flat_map}
use Rattle.memchr.specs.Find.{Nowhere, Passes, is_byte}
use Rattle.scoop_journal.specs.declared.line.Line.{Line}
use Rattle.scoop_journal.specs.Journal.{ended}

-- the texts of lines, each with its newline
abbrev pub text_of_all : List Line → List ℕ
text_of_all lines = flat_map ended lines

abbrev pub HasNoNewline : List ℕ → Type 0
HasNoNewline bytes = Nowhere (Passes (is_byte 10) bytes) 0 (length bytes)

-- the bytes are those of these lines, and of a rest without a newline: a line that was not written to its end
pub record IsJournalOf (bytes : List ℕ) (lines : List Line) : Type 0 where
  pub half : List ℕ
  pub bytes_are : bytes ≡ text_of_all lines ++ half
  pub no_line : HasNoNewline half
