use Rattle.std.proofs.Common.{length}
use Rattle.scoop_system.proofs.printing.class.+print_more_writes.Given as goal

abbrev pub decreases-print_more_writes : goal.decreases-print_more_writes
decreases-print_more_writes g l = length l.writes.now
