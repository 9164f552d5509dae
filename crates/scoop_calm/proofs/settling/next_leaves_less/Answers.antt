use Rattle.scoop_calm.proofs.NextEvents.{leaves_less}
use Rattle.scoop_calm.proofs.settling.next_leaves_less.Goals as goal

pub returns : goal.returns
returns c = leaves_less
