use Rattle.std.proofs.Common.{length}
use Rattle.scoop_packed.proofs.writing.+put_entries.Given as goal

abbrev pub decreases-put_entries : goal.decreases-put_entries
decreases-put_entries g l = length l.entries.now
