use Rattle.scoop_model.proofs.Told.{all_unlocked}
use Rattle.scoop_model.proofs.theorems.telling.unlock_is_opened_or_abandoned.Goals as goal

pub returns : goal.returns
returns c = all_unlocked
