use Rattle.scoop_client.proofs.DueRows.{due_exactly}
use Rattle.scoop_client.proofs.theorems.due_by_the_table.Goals as goal

pub returns : goal.returns
returns c = due_exactly
