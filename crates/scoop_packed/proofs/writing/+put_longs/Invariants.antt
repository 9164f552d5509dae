use Rattle.std.proofs.Common.{length}
use Rattle.scoop_packed.proofs.writing.+put_longs.Given as goal

abbrev pub decreases-put_longs : goal.decreases-put_longs
decreases-put_longs g l = length l.numbers.now
