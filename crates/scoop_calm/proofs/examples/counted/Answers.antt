use Rattle.scoop_calm.proofs.Names.{refl}
use Rattle.scoop_calm.proofs.examples.counted.Goals as goal

pub returns : goal.returns
returns c = record { block = refl; again = refl }
