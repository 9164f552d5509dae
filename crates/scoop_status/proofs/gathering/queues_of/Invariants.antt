-- The private queues so far are shown.
use Rattle.std.proofs.Common.{◌≡◌, take, map}
use Rattle.scoop_status.specs.Shown.{queue_view}
use Rattle.scoop_status.proofs.gathering.queues_of.Given as goal

abbrev pub invariant-loop-place : goal.invariant-loop-place
invariant-loop-place l = l.views.items ≡ map (queue_view l.queues) (take l.place l.queues)
