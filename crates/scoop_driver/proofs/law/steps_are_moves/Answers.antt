use Rattle.scoop_driver.proofs.Moves.{are_moves}
use Rattle.scoop_driver.proofs.law.steps_are_moves.Goals as goal

pub returns : goal.returns
returns c = are_moves
