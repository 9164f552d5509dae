use Rattle.scoop_demo.proofs.AnswerLemmas.{elsewhere_ran, not_away}
use Rattle.scoop_demo.proofs.answer.run_dry.Goals as goal

pub refusal_of-requires : goal.refusal_of-requires
refusal_of-requires g c = not_away c.args.handler c.args.book.now c.run_out.new.book _ c.requires c.in-Err.ensures.refused

pub returns-in-Ok-clause-others : goal.returns-in-Ok-clause-others
returns-in-Ok-clause-others g c = elsewhere_ran _ _ _ _ _ _ _ c.requires c.run_out.ensures.others

pub returns-in-Err-clause-err : goal.returns-in-Err-clause-err
returns-in-Err-clause-err g c = record { refusal = _; told = c.refusal_of.ensures; breaks = c.in-Err.ensures.refused; some = c.in-Err.ensures.err }

pub returns-in-Err-clause-others : goal.returns-in-Err-clause-others
returns-in-Err-clause-others g c = elsewhere_ran _ _ _ _ _ _ _ c.requires c.run_out.ensures.others
