use Rattle.scoop_rules.proofs.Follows.Runs as runs
use Rattle.scoop_rules.proofs.theorems.opens_empty.Goals as goal

pub returns : goal.returns
returns c = runs.opens_empty
