use Rattle.std.proofs.Common.{◌∙◌, sym, ap}
use Rattle.std.specs.Result.{result_err}
use Rattle.scoop_demo.specs.Script.StopsAtLine.{in_memory}
use Rattle.scoop_demo.proofs.ScriptLemmas.{too_late, party_stops}
use Rattle.scoop_demo.proofs.playing.cast.Cast.join.Goals as goal

pub returns-then-is_some-clause-err : goal.returns-then-is_some-clause-err
returns-then-is_some-clause-err c parties stored = too_late parties stored _ _ _ _ (sym c.is_some.ensures ∙ c.if-is_some.true) c.fault_at.ensures

pub returns-in-Err-clause-err : goal.returns-in-Err-clause-err
returns-in-Err-clause-err c parties stored =
    party_stops parties stored _ _ _ c.in-Err.fault _ (sym c.is_some.ensures ∙ c.if-is_some.false)
    (ap result_err (sym c.in-Err.ensures.value)) c.fault_at-in-Err.ensures

pub returns-in-Err-add_client-clause-err : goal.returns-in-Err-add_client-clause-err
returns-in-Err-add_client-clause-err c parties stored = in_memory
