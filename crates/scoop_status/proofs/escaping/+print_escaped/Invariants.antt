use Rattle.std.proofs.Common.{length}
use Rattle.scoop_status.proofs.escaping.+print_escaped.Given as goal

abbrev pub decreases-print_escaped : goal.decreases-print_escaped
decreases-print_escaped g l = length l.text.now
