use Rattle.scoop_weaver.proofs.Lifting.{woven_world}
use Rattle.scoop_weaver.proofs.law.woven_is_a_world.Goals as goal

pub returns : goal.returns
returns c = woven_world
