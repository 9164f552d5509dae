use Rattle.scoop_calm.proofs.NextEvents.{calm_exactly}
use Rattle.scoop_calm.proofs.settling.calm_has_no_next.Goals as goal

pub returns : goal.returns
returns c = calm_exactly
