use Rattle.std.proofs.Common.{length}
use Rattle.scoop_object.proofs.row.+repeats_word.Given as goal

abbrev pub decreases-repeats_word : goal.decreases-repeats_word
decreases-repeats_word l = length l.writes.now
