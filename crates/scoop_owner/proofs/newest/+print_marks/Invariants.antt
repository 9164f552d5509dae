use Rattle.std.proofs.Common.{length}
use Rattle.scoop_owner.proofs.newest.+print_marks.Given as goal

abbrev pub decreases-print_marks : goal.decreases-print_marks
decreases-print_marks g l = length l.marks.now
