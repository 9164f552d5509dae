use Rattle.scoop_rules.proofs.Follows.Runs as runs
use Rattle.scoop_rules.proofs.theorems.runs_by_rules.Goals as goal

pub returns : goal.returns
returns c = runs.runs_by_rules
