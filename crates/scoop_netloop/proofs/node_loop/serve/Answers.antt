use Rattle.std.proofs.Common.{rules, arith, length, ◌<◌}
use Rattle.scoop_netloop.proofs.Firsts.{serves_first_nothing, serves_first_served}
use Rattle.scoop_netloop.proofs.Ended.{reports_counts, reports_serves}
use Rattle.scoop_netloop.proofs.node_loop.serve.Goals as goal

pub returns-in_default-clause-first : goal.returns-in_default-clause-first
returns-in_default-clause-first g c = serves_first_nothing _ _ _ _ (search rules)

pub returns-in_default-vec-clause-first : goal.returns-in_default-vec-clause-first
returns-in_default-vec-clause-first g c = serves_first_nothing _ _ _ _ (search rules)

pub returns-clause-first : goal.returns-clause-first
returns-clause-first g c =
    let some : 0 < length c.args.passes.items = omega arith in
    serves_first_served _ _ c.args.passes.items c.split_at_mut-front.result.0.now _ _ _ c.index-front-0.result _ _ _
    (search rules) some (omega arith) (reports_serves _ _ _ _ _ _ _ c.end_settled-end.ensures
    (reports_serves _ _ _ _ _ _ _ c.lowest-end.ensures c.serve_beside-end.ensures.serves))

pub returns-clause-faults : goal.returns-clause-faults
returns-clause-faults g c = reports_counts _ _ _ _ c.end_settled-end.ensures
    (reports_counts _ _ _ _ c.lowest-end.ensures c.serve_beside-end.ensures.faults)
