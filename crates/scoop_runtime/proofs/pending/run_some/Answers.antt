use Rattle.std.proofs.Common.{◌∙◌}
use Rattle.scoop_runtime.proofs.NodeLives.{dry_opening, some_opening}
use Rattle.scoop_runtime.proofs.pending.run_some.Goals as goal

pub loop-place-preserved : goal.loop-place-preserved
loop-place-preserved g c = record {
  opening = dry_opening _ _ _ _ c.in-Ok.ensures.ok ∙ c.loop-place.invariant.opening;
  honest = λ honest. c.loop-place.invariant.honest (c.run_out.ensures.others.honest honest);
}

pub returns-in-Err-HistoryFull-clause-opening : goal.returns-in-Err-HistoryFull-clause-opening
returns-in-Err-HistoryFull-clause-opening g c = some_opening _ _ _ _ c.in-Err-HistoryFull.ensures.err ∙ c.loop-place.invariant.opening

pub returns-in-Err-clause-opening : goal.returns-in-Err-clause-opening
returns-in-Err-clause-opening g c = some_opening _ _ _ _ c.in-Err.ensures.err ∙ c.loop-place.invariant.opening

pub returns-in-Err-clause-honest : goal.returns-in-Err-clause-honest
returns-in-Err-clause-honest g c = λ honest. c.loop-place.invariant.honest (c.run_out.ensures.others.honest honest)
