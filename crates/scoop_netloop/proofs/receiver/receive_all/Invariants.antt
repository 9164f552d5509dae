-- The turns so far.
use Rattle.std.proofs.Common.{◌≡◌, true}
use Rattle.scoop_netloop.specs.Serving.{ServesPass}
use Rattle.scoop_netloop.proofs.receiver.receive_all.Given as goal

abbrev pub invariant-loop-taken : goal.invariant-loop-taken
invariant-loop-taken g l = ServesPass true l.taken l.initial.pass l.pass (g.L.Link.told l.initial.link) (g.L.Link.told l.link)
    × (g.L.Link.fault_count l.link ≡ g.L.Link.fault_count l.initial.link)
