-- The moves taken so far are a run, and each move leaves fewer.
use Rattle.scoop_weaver.specs.Weaving.{IsRun, left}
use Rattle.scoop_weaver.proofs.weaving.weave.Given as goal

abbrev pub invariant-loop-party : goal.invariant-loop-party
invariant-loop-party g l = IsRun l.parties l.places.items l.order.items l.sent

abbrev pub decreases-loop-party : goal.decreases-loop-party
decreases-loop-party g l = left l.parties l.places.items
