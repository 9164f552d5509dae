use Rattle.std.proofs.Common.{ap, Err}
use Rattle.scoop_lines.proofs.InputLemmas.{stops_at_source, stops_at_count}
use Rattle.scoop_lines.proofs.lines.Lines.next_line.Goals as goal

pub returns-in-Err-clause-err : goal.returns-in-Err-clause-err
returns-in-Err-clause-err g c =
    rw (c.error_at.ensures, ← c.self.view_is) (stops_at_source _ c.in-Err.stop (λ e. c.in-Err.ensures.long (ap Err e)))

pub returns-in-Ok-true-clause-err : goal.returns-in-Ok-true-clause-err
returns-in-Ok-true-clause-err g c =
    rw (← c.self.view_is) (stops_at_count _ _ _ (rw c.in-Ok-true.field-0-test at c.in-Ok-true.ensures.line)
    c.in-Ok-true.ensures.within c.if-number-gt-MAX_LINES.true)
