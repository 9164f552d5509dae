use Rattle.std.proofs.Common.{length}
use Rattle.scoop_system.proofs.line.fault_in.+write_names.Given as goal

abbrev pub decreases-write_names : goal.decreases-write_names
decreases-write_names g l = length l.operations.now
