use Rattle.scoop_model.proofs.Order.Runs.{opened_in_joint}
use Rattle.scoop_model.proofs.theorems.histories.opened_in_joint.Goals as goal

pub returns : goal.returns
returns c = opened_in_joint
