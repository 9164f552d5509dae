-- The messages have grown, and the trail has the moves so far.
use Rattle.std.proofs.Common.{List, ◌++◌, take}
use Rattle.scoop_weaver.specs.declared.traffic.Traffic.{Traffic}
use Rattle.scoop_weaver.specs.Post.{Grows}
use Rattle.scoop_weaver.specs.Trails.{HasTraffic}
use Rattle.scoop_replay.proofs.client.add_all.Given as goal

abbrev pub invariant-loop-next : goal.invariant-loop-next
invariant-loop-next l =
    Grows l.fn.post l.post × ((ts : List Traffic) → HasTraffic l.fn.post l.fn.trail ts → HasTraffic l.post l.trail (ts ++ take l.next-index l.moves))
