use Rattle.std.proofs.Common.{refl}
use Rattle.scoop_model.proofs.examples.last_incarnation.Goals as goal

pub returns : goal.returns
returns c = record { opens = refl; spent = refl }
