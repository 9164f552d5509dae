use Rattle.std.proofs.Common.{arith}
use Rattle.scoop_link.proofs.Silences.{silenced_in_place}
use Rattle.scoop_link.proofs.pace.silence_all.Goals as goal

pub loop-last-preserved : goal.loop-last-preserved
loop-last-preserved c = silenced_in_place _ _ _ _ (omega arith) (omega arith) c.loop-last.invariant
