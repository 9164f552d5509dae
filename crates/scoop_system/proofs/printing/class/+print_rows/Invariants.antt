use Rattle.std.proofs.Common.{length}
use Rattle.scoop_system.proofs.printing.class.+print_rows.Given as goal

abbrev pub decreases-print_rows : goal.decreases-print_rows
decreases-print_rows g l = length l.rows.now
