use Rattle.std.proofs.Common.{add-one}
use Rattle.scoop_handler.proofs.QueuePlaces.{all-next}
use Rattle.scoop_handler.proofs.state.conditions.have_marks.Goals as goal

pub loop-i-preserved : goal.loop-i-preserved
loop-i-preserved g c = rw add-one (all-next _ _ c.loop-i.i c.loop-i.invariant (c.has_mark.ensures.0 c.if-not-has_mark.false))
