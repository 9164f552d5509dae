-- The moves taken so far are a run, and each move leaves fewer.
use Rattle.std.proofs.Common.{◌≡◌, []}
use Rattle.std.specs.Prelude.{length}
use Rattle.scoop_weaver.specs.Trails.{AllNumbered, IsTrailRun, parties_along}
use Rattle.scoop_weaver.specs.Weaving.{left}
use Rattle.scoop_weaver.proofs.trails.weave_trails.Given as goal

abbrev pub invariant-loop-party : goal.invariant-loop-party
invariant-loop-party g l =
    (length l.places.items ≡ length l.trails)
    × (AllNumbered l.post l.trails → IsTrailRun l.post l.trails l.places.items l.order.items l.sent.items)

abbrev pub decreases-loop-party : goal.decreases-loop-party
decreases-loop-party g l = left (parties_along [] l.trails) l.places.items
