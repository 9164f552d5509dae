use Rattle.std.proofs.Common.{length}
use Rattle.scoop_object.proofs.fault.+repeats_op.Given as goal

abbrev pub decreases-repeats_op : goal.decreases-repeats_op
decreases-repeats_op l = length l.rows.now
