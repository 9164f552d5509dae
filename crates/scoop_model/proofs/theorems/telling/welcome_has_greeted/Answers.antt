use Rattle.scoop_model.proofs.Told.{all_greeted}
use Rattle.scoop_model.proofs.theorems.telling.welcome_has_greeted.Goals as goal

pub returns : goal.returns
returns c = all_greeted
