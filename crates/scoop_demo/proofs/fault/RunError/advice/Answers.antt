use Rattle.std.proofs.Common.{refl}
use Rattle.std.specs.Fmt.{digits}
use Rattle.scoop_demo.proofs.fault.RunError.advice.Goals as goal

pub returns-in-HistoryFull : goal.returns-in-HistoryFull
unfolding digits
returns-in-HistoryFull c = rw c.in-HistoryFull.is refl
