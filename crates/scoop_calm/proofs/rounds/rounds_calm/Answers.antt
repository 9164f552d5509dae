use Rattle.scoop_calm.proofs.RoundsCalm.{rounds_calm}
use Rattle.scoop_calm.proofs.rounds.rounds_calm.Goals as goal

pub returns : goal.returns
returns c = rounds_calm
