use Rattle.std.proofs.Common.{length}
use Rattle.scoop_message.proofs.entries.+end_only_last.Given as goal

abbrev pub decreases-end_only_last : goal.decreases-end_only_last
decreases-end_only_last l = length l.entries.now
