use Rattle.scoop_world.proofs.LogLists.{place-found}
use Rattle.scoop_world.proofs.logs.place_of.Goals as goal

pub returns-clause-place : goal.returns-clause-place
returns-clause-place g c = place-found c.args.block c.args.logs.now.entries c.get_index_of.result c.get_index_of.ensures.index
