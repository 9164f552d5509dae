use Rattle.scoop_programs.proofs.Worlds.{are_a_world}
use Rattle.scoop_programs.proofs.law.programs_are_a_world.Goals as goal

pub returns : goal.returns
returns g c = λ nodes clients runs. are_a_world nodes clients runs
