use Rattle.scoop_calm.proofs.NeverStuck.{never_stuck}
use Rattle.scoop_calm.proofs.settling.never_stuck.Goals as goal

pub returns : goal.returns
returns c = never_stuck
