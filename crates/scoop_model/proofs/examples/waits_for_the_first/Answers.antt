use Rattle.std.proofs.Common.{refl}
use Rattle.scoop_model.proofs.examples.waits_for_the_first.Goals as goal

pub returns : goal.returns
returns c = record { all_taken = refl; waits = refl; no_room = refl; goes_on = refl }
