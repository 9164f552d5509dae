use Rattle.scoop_model.proofs.Told.{all_stored}
use Rattle.scoop_model.proofs.theorems.telling.hello_is_stored.Goals as goal

pub returns : goal.returns
returns c = all_stored
