use Rattle.std.proofs.Common.{Some, refl}
use Rattle.scoop_demo.specs.Run.StopsInLine.{in_digits, in_book, in_output}
use Rattle.scoop_demo.proofs.AnswerLemmas.{absent_printed, elsewhere_more, here_printed}
use Rattle.scoop_demo.proofs.RunLemmas.{digits_fault, hears_line, is_datagram, keeps_all, ran_behind, rested_behind, stopped_behind}
use Rattle.scoop_demo.proofs.run.answer_line.Goals as goal

pub returns-in-Err-clause-err : goal.returns-in-Err-clause-err
returns-in-Err-clause-err g c = in_digits (digits_fault c.args.number c.args.line.now.items (Some c.in-Err.fault) c.requires c.in-Err.ensures.fault) refl
    (keeps_all _)

pub returns-in-Err-answer-clause-err : goal.returns-in-Err-answer-clause-err
returns-in-Err-answer-clause-err g c =
    in_book c.in-Ok.datagram.now (is_datagram c.args.number c.args.line.now.items c.in-Ok.datagram.now c.requires c.in-Ok.ensures.fault c.in-Ok.ensures.ok)
    c.in-Err-answer.ensures.err (keeps_all _)

pub returns-in-Err-print_answer-clause-err : goal.returns-in-Err-print_answer-clause-err
returns-in-Err-print_answer-clause-err g c = in_output _ _ (hears_line _ _ _ _ _ _ _ c.requires c.in-Ok.ensures.fault c.in-Ok.ensures.ok
    c.in-Ok-answer.ensures.ok)

pub run_dry-requires : goal.run_dry-requires
run_dry-requires g c = here_printed _ _ _ _ _ _ c.in-Ok-answer.ensures.ok c.in-Some.is

pub returns-in-Some-clause-ok : goal.returns-in-Some-clause-ok
returns-in-Some-clause-ok g c =
    let hears = hears_line _ _ _ _ _ _ _ c.requires c.in-Ok.ensures.fault c.in-Ok.ensures.ok c.in-Ok-answer.ensures.ok in
    ran_behind _ _ _ _ _ _ _ _ hears c.in-Ok-print_answer.ensures c.run_dry.result _ _ c.in-Some.is c.run_dry.ensures.ok

pub returns-in-Some-clause-err : goal.returns-in-Some-clause-err
returns-in-Some-clause-err g c =
    let hears = hears_line _ _ _ _ _ _ _ c.requires c.in-Ok.ensures.fault c.in-Ok.ensures.ok c.in-Ok-answer.ensures.ok in
    stopped_behind _ _ _ _ _ _ _ _ hears c.in-Ok-print_answer.ensures c.run_dry.result _ _ c.in-Some.is c.run_dry.ensures.err

pub returns-in-Some-clause-others : goal.returns-in-Some-clause-others
returns-in-Some-clause-others g c =
    elsewhere_more _ _ _ _ _ _ _ _ (λ h none. absent_printed _ _ _ _ _ h c.in-Ok-answer.ensures.ok none) c.answer.ensures.others c.run_dry.ensures.others

pub returns-in-None-clause-ok : goal.returns-in-None-clause-ok
returns-in-None-clause-ok g c =
    let hears = hears_line _ _ _ _ _ _ _ c.requires c.in-Ok.ensures.fault c.in-Ok.ensures.ok c.in-Ok-answer.ensures.ok in
    rested_behind _ _ _ _ _ _ _ _ hears c.in-Ok-print_answer.ensures c.in-None.is
