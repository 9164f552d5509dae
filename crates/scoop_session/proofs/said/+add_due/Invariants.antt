use Rattle.std.proofs.Common.{length}
use Rattle.scoop_session.proofs.said.+add_due.Given as goal

abbrev pub decreases-add_due : goal.decreases-add_due
decreases-add_due g l = length l.handlers.now
