use Rattle.std.proofs.Common.{length}
use Rattle.scoop_links.proofs.numbers.+print_numbers.Given as goal

abbrev pub decreases-print_numbers : goal.decreases-print_numbers
decreases-print_numbers g l = length l.numbers.now
