use Rattle.scoop_model.proofs.Ready.Runs.{always_facts}
use Rattle.scoop_model.proofs.theorems.histories.handlers_sound.Goals as goal

pub returns : goal.returns
returns c = λ ps ns es may. (always_facts ps ns es may).sound.sites
