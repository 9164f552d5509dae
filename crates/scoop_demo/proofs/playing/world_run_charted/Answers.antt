use Rattle.scoop_demo.proofs.ScriptLemmas.{output_stops}
use Rattle.scoop_demo.proofs.playing.world_run_charted.Goals as goal

pub returns-in-Ok-clause-err : goal.returns-in-Ok-clause-err
returns-in-Ok-clause-err g c = output_stops _ _ _ c.in-Ok.ensures.ok
