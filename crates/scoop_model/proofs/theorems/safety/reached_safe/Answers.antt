use Rattle.scoop_model.proofs.Headline as headline
use Rattle.scoop_model.proofs.theorems.safety.reached_safe.Goals as goal

pub returns : goal.returns
returns c = headline.reached_safe
