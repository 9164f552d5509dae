use Rattle.scoop_model.proofs.Order.Sets.{handlers_stay}
use Rattle.scoop_model.proofs.theorems.histories.handlers_stay.Goals as goal

pub returns : goal.returns
returns c = handlers_stay
