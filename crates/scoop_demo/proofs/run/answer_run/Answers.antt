use Rattle.scoop_demo.proofs.RunLemmas.{all_flushed, stops_flushed, all_but_output}
use Rattle.scoop_demo.proofs.run.answer_run.Goals as goal

pub returns-in-Ok-clause-err : goal.returns-in-Ok-clause-err
returns-in-Ok-clause-err g c = all_but_output _ _ _ _ _ _ _ c.in-Ok.ensures.ok

pub returns-in_default-2-clause-err : goal.returns-in_default-2-clause-err
returns-in_default-2-clause-err g c = stops_flushed _ _ _ _ _ _ _ c.answer_all-answered.ensures.err c.flush-flushed.ensures.bytes

pub returns-in_default-2-clause-ok : goal.returns-in_default-2-clause-ok
returns-in_default-2-clause-ok g c = all_flushed _ _ _ _ _ _ _ _ c.answer_all-answered.ensures.ok c.flush-flushed.ensures.bytes
