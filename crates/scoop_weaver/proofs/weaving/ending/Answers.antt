use Rattle.std.specs.Prelude.{slice_index}
use Rattle.scoop_weaver.proofs.Taking.{all_woven, no_order, unexplained}
use Rattle.scoop_weaver.proofs.weaving.ending.Goals as goal

pub returns-in-None-clause-woven : goal.returns-in-None-clause-woven
returns-in-None-clause-woven g c =
    all_woven c.args.parties.now c.args.places.now c.args.order.items c.args.sent.now c.requires.run c.in-None.ensures.none

pub returns-in-Some-clause-unexplained : goal.returns-in-Some-clause-unexplained
returns-in-Some-clause-unexplained g c =
    unexplained c.args.parties.now c.args.places.now c.args.order.items c.args.sent.now c.requires.run c.requires.stuck c.in-Some.party c.in-Some.ensures.some.0
    c.in-Some.ensures.some.1

pub returns-in-Some-clause-none : goal.returns-in-Some-clause-none
returns-in-Some-clause-none g c =
    λ not_memory order woven.
    no_order c.args.parties.now c.in-Some.party (slice_index c.args.places.now c.in-Some.party) order
    (unexplained c.args.parties.now c.args.places.now c.args.order.items c.args.sent.now c.requires.run c.requires.stuck c.in-Some.party
    c.in-Some.ensures.some.0 c.in-Some.ensures.some.1)
    woven
