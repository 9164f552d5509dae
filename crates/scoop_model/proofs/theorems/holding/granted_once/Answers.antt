use Rattle.scoop_model.proofs.Grants as grants
use Rattle.scoop_model.proofs.theorems.holding.granted_once.Goals as goal

pub returns : goal.returns
returns c = grants.granted_once
