use Rattle.std.proofs.Common.{ap, ◌∙◌, Ok, max, sym}
use Rattle.scoop_demo.proofs.ScriptLemmas.{taken_none, end_if, end_plays, taken_stops, taken_more, line_stops, refused_stops}
use Rattle.scoop_demo.proofs.playing.play_lines.Goals as goal

pub loop-cast-init : goal.loop-cast-init
loop-cast-init g c = rw c.new-lines.ensures (taken_none _ _ _ _ _ _ _ c.requires.closed c.requires.waits)

pub returns-in-Ok-false-clause-ok : goal.returns-in-Ok-false-clause-ok
returns-in-Ok-false-clause-ok g c =
    end_plays c.args.options.is_strict c.loop-cast.invariant _ (c.in-Ok-false.ensures.end (ap Ok c.in-Ok-false.field-0-test))
    (c.open_by.ensures.opens _ _ c.loop-cast.invariant.staged)

pub returns-in-Ok-false-clause-err : goal.returns-in-Ok-false-clause-err
returns-in-Ok-false-clause-err g c =
    end_if c.args.options.is_strict c.loop-cast.invariant _ _ (c.in-Ok-false.ensures.end (ap Ok c.in-Ok-false.field-0-test))
    (c.max.ensures ∙ ap (λ n. max n 1) c.number-taken.ensures)
    (c.open_by.ensures.err _ _ c.loop-cast.invariant.staged)

pub returns-in-Err-clause-err : goal.returns-in-Err-clause-err
returns-in-Err-clause-err g c = rw c.from.ensures (taken_stops c.args.options.is_strict c.loop-cast.invariant _ c.in-Err.ensures.err)

pub loop-cast-preserved : goal.loop-cast-preserved
loop-cast-preserved g c =
    let line = rw c.in-Ok-true.field-0-test at c.in-Ok-true.ensures.line in
    taken_more c.args.options.is_strict c.loop-cast.invariant _ _ _ _ line (rw c.as_slice.ensures.value at c.in-Ok.ensures.ok)
    (rw c.as_slice.ensures.value at c.in-Ok.ensures.opened)
    (rw c.as_slice.ensures.value at (c.in-Ok.ensures.staged _ _ c.loop-cast.invariant.staged))

pub returns-in-Err-play_line-clause-err : goal.returns-in-Err-play_line-clause-err
returns-in-Err-play_line-clause-err g c =
    let line = rw c.in-Ok-true.field-0-test at c.in-Ok-true.ensures.line in
    line_stops c.args.options.is_strict c.loop-cast.invariant _ _ line
    (rw (c.number-number.ensures, c.as_slice.ensures.value) at (c.in-Err-play_line.ensures.err _ _ c.loop-cast.invariant.staged))

pub returns-then-cast-clause-err : goal.returns-then-cast-clause-err
returns-then-cast-clause-err g c =
    let line = rw c.in-Ok-true.field-0-test at c.in-Ok-true.ensures.line in
    let more = taken_more c.args.options.is_strict c.loop-cast.invariant _ _ _ _ line (rw c.as_slice.ensures.value at c.in-Ok.ensures.ok)
    (rw c.as_slice.ensures.value at c.in-Ok.ensures.opened)
    (rw c.as_slice.ensures.value at (c.in-Ok.ensures.staged _ _ c.loop-cast.invariant.staged)) in
    refused_stops c.args.options.is_strict more _ c.number-number.ensures c.if-options.true
