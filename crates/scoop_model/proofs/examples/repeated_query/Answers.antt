use Rattle.std.proofs.Common.{refl}
use Rattle.scoop_model.proofs.examples.repeated_query.Goals as goal

pub returns : goal.returns
returns c = record { all_taken = refl; waits = refl; at_handler = refl; at_client = refl; numbers = refl; words = refl }
