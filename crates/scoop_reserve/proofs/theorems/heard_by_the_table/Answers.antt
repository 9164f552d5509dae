use Rattle.scoop_reserve.proofs.Rows.{heard_exactly}
use Rattle.scoop_reserve.proofs.theorems.heard_by_the_table.Goals as goal

pub returns : goal.returns
returns c = heard_exactly
