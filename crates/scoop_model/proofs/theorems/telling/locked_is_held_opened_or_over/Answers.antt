use Rattle.scoop_model.proofs.Told.{all_held}
use Rattle.scoop_model.proofs.theorems.telling.locked_is_held_opened_or_over.Goals as goal

pub returns : goal.returns
returns c = all_held
