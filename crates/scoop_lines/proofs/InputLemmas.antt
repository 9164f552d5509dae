-- The next line of an input, taken or not.
use Rattle.std.proofs.Common.{◌≡◌, ℕ, ◌+◌, ◌<◌, ◌≤◌, List, length, refl, arith, Option, Some, None}
use Rattle.std.proofs.lemmas.Bool.Decides.{nat_tests}
use Rattle.scoop_lines.specs.declared.error.SourceFault.TheVariants.{LineTooLong, TooManyLines}
use Rattle.scoop_lines.specs.declared.source.Stop.{Stop}
use Rattle.scoop_lines.specs.declared.source.Stop.TheVariants as stop
use Rattle.scoop_lines.specs.Line.{line_limit, count_limit, limit_fault, IsWithin, BeginsWith, BeginsTooLong, TakesFirst, lines_of}
use Rattle.scoop_lines.specs.Input.{Input, StopsAtNext, error_at_line, unread}
use Rattle.scoop_lines.specs.Input.StopsAtNext.{read_fault, past_limit, flush_fault}

too_long : (number : ℕ) (line : List ℕ) → line_limit < length line → limit_fault number line ≡ Some LineTooLong
too_long number line long = grind (arith, nat_tests)

too_many : (number : ℕ) (line : List ℕ) → IsWithin line → count_limit < number → limit_fault number line ≡ Some TooManyLines
too_many number line within many = grind (arith, nat_tests)

pub no_limit : (number : ℕ) (line : List ℕ) → IsWithin line → number ≤ count_limit → limit_fault number line ≡ None
no_limit number line within few = grind (arith, nat_tests)

-- a known input begins with the line that was taken
pub begins_with : (left new : Option (List ℕ)) (line : List ℕ) → TakesFirst left line new → BeginsWith left line
begins_with None new line t = tt
begins_with (Some xs) None line t = absurd t
begins_with (Some xs) (Some ys) line t = (lines_of ys, t)

-- the next line could not be read
pub stops_at_source : (old : Input) (e : Stop) → (e ≡ stop.LineTooLong → BeginsTooLong old.left) → StopsAtNext old (error_at_line (old.taken + 1) e)
stops_at_source old stop.LineTooLong h =
    let b = h refl in
    past_limit (record { line = b.line; found = too_long (old.taken + 1) b.line b.long; next = b.next })
stops_at_source old stop.Read h = read_fault
stops_at_source old stop.Flush h = flush_fault

-- the next line is one too many
pub stops_at_count : (old : Input) (left : Option (List ℕ)) (line : List ℕ) → TakesFirst old.left line left → IsWithin line → count_limit < old.taken + 1
    → StopsAtNext old (unread (old.taken + 1) TooManyLines)
stops_at_count old left line t within many =
    past_limit (record { line = line; found = too_many (old.taken + 1) line within many; next = begins_with old.left left line t })
