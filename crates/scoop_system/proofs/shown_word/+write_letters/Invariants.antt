use Rattle.std.proofs.Common.{length}
use Rattle.scoop_system.proofs.shown_word.+write_letters.Given as goal

abbrev pub decreases-write_letters : goal.decreases-write_letters
decreases-write_letters g l = length l.letters.now
