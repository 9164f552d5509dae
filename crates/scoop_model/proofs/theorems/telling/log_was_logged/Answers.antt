use Rattle.scoop_model.proofs.Told.{all_logged}
use Rattle.scoop_model.proofs.theorems.telling.log_was_logged.Goals as goal

pub returns : goal.returns
returns c = all_logged
