use Rattle.std.proofs.Common.{length}
use Rattle.scoop_system.proofs.arguments.+writes_arguments.Given as goal

abbrev pub decreases-writes_arguments : goal.decreases-writes_arguments
decreases-writes_arguments l = length l.writes.now
