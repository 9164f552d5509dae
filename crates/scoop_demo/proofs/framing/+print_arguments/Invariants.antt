use Rattle.std.proofs.Common.{length}
use Rattle.scoop_demo.proofs.framing.+print_arguments.Given as goal

-- proposed from what the function passes where it calls itself
abbrev pub decreases-print_arguments : goal.decreases-print_arguments
decreases-print_arguments g l = length l.arguments.now
