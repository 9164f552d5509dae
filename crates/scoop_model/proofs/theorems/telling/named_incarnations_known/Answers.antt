use Rattle.scoop_model.proofs.Knowing.Runs.{names_known}
use Rattle.scoop_model.proofs.theorems.telling.named_incarnations_known.Goals as goal

pub returns : goal.returns
returns c = names_known
