use Rattle.scoop_world.proofs.LogLists.{kept-insert}
use Rattle.scoop_world.proofs.logs.add.Goals as goal

pub returns : goal.returns
returns g c = rw c.in-Ok.ensures.entries (kept-insert c.args.block c.args.shares c.args.logs.now.entries c.requires.new)
