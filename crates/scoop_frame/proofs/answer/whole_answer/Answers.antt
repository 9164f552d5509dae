use Rattle.std.proofs.Common.{[], drop, length, sym, ap, ◌∙◌, arith}
use Rattle.std.proofs.lemmas.List.{append-nil, length-append}
use Rattle.scoop_frame.specs.Body.{answer_bytes}
use Rattle.scoop_frame.proofs.Entries.{answer_first}
use Rattle.scoop_frame.proofs.answer.whole_answer.Goals as goal

pub returns-in-None : goal.returns-in-None
returns-in-None c = λ a fits e. c.in-None.ensures a [] fits (e ∙ sym (append-nil (answer_bytes a)))

pub returns-else-len-bytes : goal.returns-else-len-bytes
returns-else-len-bytes c = λ a fits e.
    let b = c.args.bytes.now in
    let read = c.in-Some.ensures in
    let same = answer_first c.in-Some.answer a (drop c.in-Some.len b) [] read.0 fits (sym read.2 ∙ e ∙ sym (append-nil (answer_bytes a))) in
    absurd (omega (
      arith,
      ap length read.2,
      ap length same.1,
      length-append (answer_bytes c.in-Some.answer)
          (drop c.in-Some.len b),
      read.1,
      c.if-len-bytes.false,
    ))
