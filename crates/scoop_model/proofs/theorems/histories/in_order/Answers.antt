use Rattle.scoop_model.proofs.Order.Runs.{in_order}
use Rattle.scoop_model.proofs.theorems.histories.in_order.Goals as goal

pub returns : goal.returns
returns c = in_order
