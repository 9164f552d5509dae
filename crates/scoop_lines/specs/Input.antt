-- An input that is read line by line.
use Rattle.std.specs.Prelude.{◌≡◌, ℕ, ◌+◌, List, Option, Some, None}
use Rattle.scoop_lines.specs.declared.error.LinesError.{LinesError}
use Rattle.scoop_lines.specs.declared.error.LinesError.TheVariants.{Source, Flush}
use Rattle.scoop_lines.specs.declared.error.SourceFault.{SourceFault}
use Rattle.scoop_lines.specs.declared.error.SourceFault.TheVariants.{ReadFault, LineTooLong}
use Rattle.scoop_lines.specs.declared.source.Stop.{Stop}
use Rattle.scoop_lines.specs.declared.source.Stop.TheVariants as stop
use Rattle.scoop_lines.specs.Line.{limit_fault, BeginsWith, TakesFirst}

-- how many lines were taken, and the bytes that are left if they are known
pub record Input : Type 0 where
  pub taken : ℕ
  pub left : Option (List ℕ)

-- the next line is within the limits, and was taken
pub record TakesLine (old : Input) (line : List ℕ) (new : Input) : Type 0 where
  pub count : new.taken ≡ old.taken + 1
  pub limits : limit_fault new.taken line ≡ None
  pub bytes : TakesFirst old.left line new.left

-- the next line breaks this limit
pub record BreaksLimit (old : Input) (fault : SourceFault) : Type 0 where
  pub line : List ℕ
  pub found : limit_fault (old.taken + 1) line ≡ Some fault
  pub next : BeginsWith old.left line

-- the line of this number can't be read
abbrev pub unread : ℕ → SourceFault → LinesError
unread number fault = Source (record { line = number; fault = fault })

-- why the next line isn't taken: the reader failed, the line breaks a limit, or the output failed
pub data StopsAtNext (old : Input) : LinesError → Type 0 where
  read_fault : StopsAtNext old (unread (old.taken + 1) ReadFault)
  past_limit : {fault : SourceFault} → BreaksLimit old fault → StopsAtNext old (unread (old.taken + 1) fault)
  flush_fault : StopsAtNext old Flush

-- the error at the line of this number
abbrev pub error_at_line : ℕ → Stop → LinesError
error_at_line number stop.LineTooLong = unread number LineTooLong
error_at_line number stop.Read = unread number ReadFault
error_at_line number stop.Flush = Flush
