use Rattle.scoop_weave.proofs.JoinedLives.{is_a_world}
use Rattle.scoop_weave.proofs.lives.running_is_a_world.Goals as goal

pub returns : goal.returns
returns c = λ nodes clients order opens runs. is_a_world nodes clients opens order runs
