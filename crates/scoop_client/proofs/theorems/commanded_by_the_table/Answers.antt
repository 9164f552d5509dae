use Rattle.scoop_client.proofs.CommandRows.{command_exactly}
use Rattle.scoop_client.proofs.theorems.commanded_by_the_table.Goals as goal

pub returns : goal.returns
returns c = command_exactly
