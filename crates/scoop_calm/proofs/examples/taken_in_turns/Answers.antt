use Rattle.scoop_calm.proofs.Names.{refl}
use Rattle.scoop_calm.proofs.examples.taken_in_turns.Goals as goal

pub returns : goal.returns
returns c = record { all_taken = refl; opened = refl; waits = refl }
