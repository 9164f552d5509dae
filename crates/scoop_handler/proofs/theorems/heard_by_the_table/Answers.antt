use Rattle.scoop_handler.proofs.OneRow.{heard_exactly}
use Rattle.scoop_handler.proofs.theorems.heard_by_the_table.Goals as goal

pub returns : goal.returns
returns c = heard_exactly
