use Rattle.scoop_model.proofs.Told.{all_ran}
use Rattle.scoop_model.proofs.theorems.telling.answer_has_run.Goals as goal

pub returns : goal.returns
returns c = all_ran
