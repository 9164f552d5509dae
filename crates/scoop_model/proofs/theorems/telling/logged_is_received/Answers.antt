use Rattle.scoop_model.proofs.Arriving.{logged_received}
use Rattle.scoop_model.proofs.theorems.telling.logged_is_received.Goals as goal

pub returns : goal.returns
returns c = logged_received
