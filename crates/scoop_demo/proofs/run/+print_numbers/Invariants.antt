use Rattle.std.proofs.Common.{length}
use Rattle.scoop_demo.proofs.run.+print_numbers.Given as goal

-- proposed from what the function passes where it calls itself
abbrev pub decreases-print_numbers : goal.decreases-print_numbers
decreases-print_numbers g l = length l.numbers.now
