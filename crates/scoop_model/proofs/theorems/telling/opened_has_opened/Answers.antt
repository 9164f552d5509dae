use Rattle.scoop_model.proofs.Told.{all_opened}
use Rattle.scoop_model.proofs.theorems.telling.opened_has_opened.Goals as goal

pub returns : goal.returns
returns c = all_opened
