use Rattle.std.proofs.Common.{length}
use Rattle.scoop_handler.proofs.state.conditions.+fit.Given as goal

abbrev pub decreases-fit : goal.decreases-fit
decreases-fit g l = length l.marks.now
