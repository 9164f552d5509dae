use Rattle.std.proofs.Common.{length}
use Rattle.scoop_queue.proofs.ending.+has_ending.Given as goal

abbrev pub decreases-has_ending : goal.decreases-has_ending
decreases-has_ending l = length l.entries.now
