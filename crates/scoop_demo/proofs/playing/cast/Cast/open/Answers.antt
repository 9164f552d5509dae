use Rattle.scoop_demo.specs.Script.StopsOpening.{of_memory}
use Rattle.scoop_demo.proofs.StagingLemmas.{opens_with, stops_unopened}
use Rattle.scoop_demo.proofs.playing.cast.Cast.open.Goals as goal

pub returns-then-is_err-clause-err : goal.returns-then-is_err-clause-err
returns-then-is_err-clause-err c parties stored w = of_memory

pub returns-in-Ok-clause-opens : goal.returns-in-Ok-clause-opens
returns-in-Ok-clause-opens c parties stored w =
    opens_with _ _ _ _ parties stored w (rw (c.replace-placements.ensures.value, c.deref.ensures.value) at c.in-Ok.ensures.placed)
    (rw (c.replace-placements.ensures.value, c.replace-keeper.ensures.value, c.deref.ensures.value) at c.in-Ok.ensures.joining)

pub returns-in-Err-clause-err : goal.returns-in-Err-clause-err
returns-in-Err-clause-err c parties stored w =
    rw c.unopened.ensures
    (stops_unopened _ _ _ _ parties stored w _ c.in-Err.error
    (rw (c.replace-placements.ensures.value, c.replace-keeper.ensures.value, c.deref.ensures.value) at c.in-Err.ensures.refused))
