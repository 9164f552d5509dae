use Rattle.scoop_calm.proofs.NextEvents.{settles_by_next}
use Rattle.scoop_calm.proofs.settling.settles_by_next_events.Goals as goal

pub returns : goal.returns
returns c = settles_by_next
