use Rattle.scoop_model.proofs.Told.{all_granted}
use Rattle.scoop_model.proofs.theorems.telling.open_was_granted.Goals as goal

pub returns : goal.returns
returns c = all_granted
