use Rattle.std.proofs.Common.{sym, ap}
use Rattle.std.specs.Result.{result_err}
use Rattle.scoop_demo.specs.Script.StopsAtLine.{in_words}
use Rattle.scoop_demo.proofs.ScriptLemmas.{closed_stops, inside_if}
use Rattle.scoop_demo.proofs.playing.cast.Cast.play_event.Goals as goal

pub returns-in-Err-clause-err : goal.returns-in-Err-clause-err
returns-in-Err-clause-err g c parties stored staged = closed_stops parties stored _ _ _ _ (c.in-Err.ensures.err parties stored staged)

pub returns-in-Err-read_event-clause-err : goal.returns-in-Err-read_event-clause-err
returns-in-Err-read_event-clause-err g c parties stored staged =
    rw c.fault_at.ensures (in_words (ap result_err (sym c.in-Err-read_event.ensures)) (λ opens. c.in-Ok.ensures.opens parties stored staged))

pub returns-clause-err : goal.returns-clause-err
returns-clause-err g c parties stored staged = inside_if parties stored _ _ _ _ (c.play_in_world.ensures.err parties stored)
