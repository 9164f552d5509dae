use Rattle.scoop_model.proofs.Grants as grants
use Rattle.scoop_model.proofs.theorems.holding.held_until_opened.Goals as goal

pub returns : goal.returns
returns c = grants.opens_held
