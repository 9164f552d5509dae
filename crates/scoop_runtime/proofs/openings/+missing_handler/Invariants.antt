use Rattle.std.proofs.Common.{length}
use Rattle.scoop_runtime.proofs.openings.+missing_handler.Given as goal

-- proposed from what the function passes where it calls itself
abbrev pub decreases-missing_handler : goal.decreases-missing_handler
decreases-missing_handler g l = length l.handlers.now
