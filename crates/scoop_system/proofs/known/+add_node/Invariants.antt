use Rattle.std.proofs.Common.{length}
use Rattle.scoop_system.proofs.known.+add_node.Given as goal

abbrev pub decreases-add_node : goal.decreases-add_node
decreases-add_node l = length l.handlers.now
