use Rattle.std.proofs.Common.{length}
use Rattle.scoop_owner.proofs.newest.+print_lines.Given as goal

abbrev pub decreases-print_lines : goal.decreases-print_lines
decreases-print_lines g l = length l.lines.now
