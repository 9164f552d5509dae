use Rattle.scoop_model.proofs.Beginnings.{opens_safe}
use Rattle.scoop_model.proofs.theorems.opening.opens_safe.Goals as goal

pub returns : goal.returns
returns c = opens_safe
