use Rattle.std.proofs.Common.{subst, sym, OnOk}
use Rattle.scoop_demo.proofs.ScriptLemmas.{output_stops, memory_stops}
use Rattle.scoop_demo.proofs.playing.play_all.Goals as goal

pub returns-in-Err-Write-clause-err : goal.returns-in-Err-Write-clause-err
returns-in-Err-Write-clause-err g c = output_stops _ _ _ (rw c.new-cast.ensures.own at c.in-Ok.ensures.ok)

pub returns-clause-err : goal.returns-clause-err
returns-clause-err g c = memory_stops _ _ _ (rw c.new-cast.ensures.own at c.in-Ok.ensures.ok)
