use Rattle.std.proofs.Common.{length}
use Rattle.scoop_free_ports.proofs.+fill.Given as goal

abbrev pub decreases-fill : goal.decreases-fill
decreases-fill g l = length l.ports.now
