use Rattle.std.proofs.Common.{ap, Ok}
use Rattle.scoop_demo.proofs.AnswerLemmas.{absent_line, elsewhere_more, elsewhere_same}
use Rattle.scoop_demo.proofs.RunLemmas.{progress_none, progress_more, progress_all, progress_stops, progress_stops_in}
use Rattle.scoop_demo.proofs.run.answer_lines.Goals as goal

pub loop-lines-init : goal.loop-lines-init
loop-lines-init g c = record {
  progress = rw c.new-lines.ensures (progress_none _ _ _);
  others = elsewhere_same _ _ _ _ _;
  absent = λ h none. none;
  sound = λ is. is;
}

pub returns-in-Ok-false-clause-ok : goal.returns-in-Ok-false-clause-ok
returns-in-Ok-false-clause-ok g c = progress_all c.loop-lines.invariant.progress
    (c.in-Ok-false.ensures.end (ap Ok c.in-Ok-false.field-0-test)) c.next_line.ensures.output

pub returns-in-Err-clause-err : goal.returns-in-Err-clause-err
returns-in-Err-clause-err g c = rw c.from.ensures (progress_stops c.loop-lines.invariant.progress _ c.in-Err.ensures.err c.next_line.ensures.output)

pub loop-lines-preserved : goal.loop-lines-preserved
loop-lines-preserved g c =
    let answered = rw c.number.ensures at c.in-Ok.ensures.ok in
    record {
      progress = progress_more c.loop-lines.invariant.progress _
          (rw c.in-Ok-true.field-0-test at c.in-Ok-true.ensures.line) c.next_line.ensures.output answered;
      others = elsewhere_more _ _ _ _ _ _ _ _ c.loop-lines.invariant.absent c.loop-lines.invariant.others c.answer_line.ensures.others;
      absent = λ h none. absent_line _ _ _ _ _ h answered.answers (c.loop-lines.invariant.absent h none);
      sound = λ is. c.answer_line.ensures.sound (c.loop-lines.invariant.sound is);
    }

pub returns-in-Err-answer_line-clause-err : goal.returns-in-Err-answer_line-clause-err
returns-in-Err-answer_line-clause-err g c =
    let stops = rw c.number.ensures at c.in-Err-answer_line.ensures.err in
    progress_stops_in c.loop-lines.invariant.progress _ (rw c.in-Ok-true.field-0-test at c.in-Ok-true.ensures.line) _ c.next_line.ensures.output stops

pub returns-in-Err-answer_line-clause-others : goal.returns-in-Err-answer_line-clause-others
returns-in-Err-answer_line-clause-others g c = elsewhere_more _ _ _ _ _ _ _ _ c.loop-lines.invariant.absent c.loop-lines.invariant.others
    c.answer_line.ensures.others
