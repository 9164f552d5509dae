use Rattle.scoop_audit.proofs.World.{told_world}
use Rattle.scoop_audit.proofs.law.journals_are_a_world.Goals as goal

pub returns : goal.returns
returns c = told_world
