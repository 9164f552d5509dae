use Rattle.std.proofs.Common.{length}
use Rattle.scoop_owner.proofs.text.+print_handlers.Given as goal

abbrev pub decreases-print_handlers : goal.decreases-print_handlers
decreases-print_handlers g l = length l.handlers.now
