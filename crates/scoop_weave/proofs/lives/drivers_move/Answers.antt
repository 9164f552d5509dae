use Rattle.scoop_weave.proofs.ClientSteps.{steps_run}
use Rattle.scoop_weave.proofs.lives.drivers_move.Goals as goal

pub returns : goal.returns
returns c = steps_run
