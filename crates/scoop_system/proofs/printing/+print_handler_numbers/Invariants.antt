use Rattle.std.proofs.Common.{length}
use Rattle.scoop_system.proofs.printing.+print_handler_numbers.Given as goal

abbrev pub decreases-print_handler_numbers : goal.decreases-print_handler_numbers
decreases-print_handler_numbers g l = length l.handlers.now
