use Rattle.scoop_runtime.proofs.NodeLives.{goes_both, goes_nowhere}
use Rattle.scoop_runtime.proofs.pending.run_left.Goals as goal

pub loop-init : goal.loop-init
loop-init g c = record { goes = goes_nowhere g.K.Keeper.handlers g.K.Keeper.is_honest _ _; honest = λ h. h }

pub loop-preserved : goal.loop-preserved
loop-preserved g c = record {
  goes = goes_both g.K.Keeper.handlers g.K.Keeper.is_honest _ _ _ _ _ _ c.loop.invariant.goes c.in_ok-kept.ensures.goes_on;
  honest = λ honest. c.loop.invariant.honest (c.in_ok-kept.ensures.honest honest);
}
