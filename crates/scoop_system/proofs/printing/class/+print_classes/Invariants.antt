use Rattle.std.proofs.Common.{length}
use Rattle.scoop_system.proofs.printing.class.+print_classes.Given as goal

abbrev pub decreases-print_classes : goal.decreases-print_classes
decreases-print_classes g l = length l.classes.now
