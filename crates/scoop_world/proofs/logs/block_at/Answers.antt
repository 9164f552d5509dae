use Rattle.scoop_world.proofs.LogLists.{block-there}
use Rattle.scoop_world.proofs.logs.block_at.Goals as goal

pub returns-in-Some : goal.returns-in-Some
returns-in-Some g c = block-there c.args.logs.now.entries c.args.place _ c.in-Some.ensures.entry

pub returns-in-None : goal.returns-in-None
returns-in-None g c = block-there c.args.logs.now.entries c.args.place _ c.in-None.ensures.entry
