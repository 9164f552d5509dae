use Rattle.std.proofs.Common.{◌∙◌, sym, ap}
use Rattle.scoop_driver.specs.Steps.{version_for}
use Rattle.scoop_driver.proofs.Sends.{list_passes, list_sends, list_breaks, frame_kept}
use Rattle.scoop_driver.proofs.sending.send_due.Goals as goal

pub loop-place-preserved-in_default : goal.loop-place-preserved-in_default
loop-place-preserved-in_default g c =
    list_passes _ _ c.handlers-handlers.ensures _ _ c.loop-place-test.true _ _ _ _ (sym c.due.ensures.value ∙ c.in_default.is) c.loop-place.invariant

pub returns-in-Err-clause-sends : goal.returns-in-Err-clause-sends
returns-in-Err-clause-sends g c =
    list_breaks _ _ c.handlers-handlers.ensures _ _ c.loop-place-test.true c.in-Some.message _ _ _ _ _
    (sym c.due.ensures.value ∙ c.in-Some.is) c.in-Err.ensures.told c.loop-place.invariant

pub loop-place-preserved : goal.loop-place-preserved
loop-place-preserved g c =
    list_sends _ _ c.handlers-handlers.ensures _ _ c.loop-place-test.true c.in-Some.message _ _ _ _ _ _ _ (sym c.due.ensures.value ∙ c.in-Some.is)
    (frame_kept _ _ c.in-Some.message _ _ _ (c.version_for-version.ensures ∙ ap version_for c.batch.ensures.value)
    c.encode-len.ensures.bytes c.encode-len.ensures.len c.encode-len.ensures.limits.1)
    c.in-Ok.ensures.told c.in-Ok.ensures.faults c.loop-place.invariant
