use Rattle.std.proofs.Common.{length}
use Rattle.scoop_system.proofs.known.+add_nodes.Given as goal

abbrev pub decreases-add_nodes : goal.decreases-add_nodes
decreases-add_nodes l = length l.nodes.now
