use Rattle.std.proofs.Common.{Err, ap}
use Rattle.scoop_lines.proofs.LineLemmas.{Keeps-keeps, begins_too_long, ends_at_newline, ends_input, goes_on, same_error}
use Rattle.scoop_lines.proofs.source.Source.next_line.Goals as goal

pub returns-in-Ok-Last-clause-line : goal.returns-in-Ok-Last-clause-line
returns-in-Ok-Last-clause-line g c =
    ends_at_newline _ _ _ _ _ c.loop-line.invariant.unended c.loop-line.invariant.taken (rw c.in-Ok-Last.field-0-is at c.in-Ok-Last.ensures.piece)

pub returns-in-Ok-Nothing-clause-line : goal.returns-in-Ok-Nothing-clause-line
returns-in-Ok-Nothing-clause-line g c =
    ends_input _ _ _ _ _ _ c.loop-line.invariant.unended c.loop-line.invariant.taken (rw c.in-Ok-Nothing.field-0-is at c.in-Ok-Nothing.ensures.piece)
    c.is_empty.ensures

pub returns-in-Err-clause-long : goal.returns-in-Err-clause-long
returns-in-Err-clause-long g c =
    λ e. begins_too_long _ _ _ c.loop-line.invariant.unended c.loop-line.invariant.taken (c.in-Err.ensures.long (ap Err (same_error _ _ e)))

pub loop-line-preserved : goal.loop-line-preserved
loop-line-preserved g c =
    let part = rw c.in-Ok-Part.field-0-is at c.in-Ok-Part.ensures.piece in
    let more = goes_on _ _ _ _ _ c.loop-line.invariant.unended c.loop-line.invariant.taken part.extends in
    record {
      taken = more.1;
      unended = more.0;
      within = c.next_piece.ensures.within c.loop-line.invariant.within;
      output = Keeps-keeps _ _ _ c.loop-line.invariant.output c.next_piece.ensures.output;
    }
