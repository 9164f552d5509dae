use Rattle.std.proofs.Common.{length}
use Rattle.scoop_demo.proofs.framing.+print_entries.Given as goal

-- proposed from what the function passes where it calls itself
abbrev pub decreases-print_entries : goal.decreases-print_entries
decreases-print_entries g l = length l.entries.now
