use Rattle.scoop_demo.proofs.RunLemmas.{all_but_output}
use Rattle.scoop_demo.proofs.run.answer_all.Goals as goal

pub returns-in-Err-print_shown-clause-err : goal.returns-in-Err-print_shown-clause-err
returns-in-Err-print_shown-clause-err g c = all_but_output _ _ _ _ _ _ _ c.in-Ok.ensures.ok
