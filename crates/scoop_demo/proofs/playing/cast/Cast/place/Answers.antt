use Rattle.std.proofs.Common.{◌∙◌, sym, ap}
use Rattle.std.specs.Result.{result_err}
use Rattle.scoop_demo.specs.Script.StopsAtLine.{in_memory}
use Rattle.scoop_demo.proofs.ScriptLemmas.{too_late, party_stops}
use Rattle.scoop_demo.proofs.playing.cast.Cast.place.Goals as goal

pub returns-then-is_some-clause-err : goal.returns-then-is_some-clause-err
returns-then-is_some-clause-err c parties stored = too_late parties stored _ _ _ _ (sym c.is_some.ensures ∙ c.if-is_some.true) c.fault_at.ensures

pub returns-in-Err-Fault-clause-err : goal.returns-in-Err-Fault-clause-err
returns-in-Err-Fault-clause-err c parties stored =
    let found = rw c.in-Err-Fault.field-0-is at c.in-Err-Fault.ensures.fault in
    party_stops parties stored _ _ _ c.in-Err-Fault.fault _ (sym c.is_some.ensures ∙ c.if-is_some.false) (ap result_err found) c.fault_at-in-Err-Fault.ensures

pub returns-in-Err-OutOfMemory-clause-err : goal.returns-in-Err-OutOfMemory-clause-err
returns-in-Err-OutOfMemory-clause-err c parties stored = in_memory

pub returns-in-Err-clause-err : goal.returns-in-Err-clause-err
returns-in-Err-clause-err c parties stored = in_memory
