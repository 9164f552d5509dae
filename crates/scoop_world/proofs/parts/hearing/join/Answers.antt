use Rattle.std.proofs.Common.{◌∙◌}
use Rattle.scoop_world.proofs.LogLists.{inserted}
use Rattle.scoop_world.proofs.parts.hearing.join.Goals as goal

pub returns-in-Ok : goal.returns-in-Ok
returns-in-Ok g c = rw c.in-Opened.is (c.in-Ok.ensures.keys ∙ inserted c.in-Opened.block c.args.joint.now.keys)
