use Rattle.std.proofs.Common.{arith}
use Rattle.scoop_keeper.proofs.Keyed.{item_at}
use Rattle.scoop_calm.specs.Capped.{standing_left}
use Rattle.scoop_calm.proofs.Sums.{one_more, all_summed}
use Rattle.scoop_calm.proofs.counting.all_left.Goals as goal

pub loop-standing-preserved : goal.loop-standing-preserved
loop-standing-preserved g c =
    let x = c.standing-item.result in
    let i = c.loop-standing.standing-index in
    let at = item_at c.args.states.now i x (omega arith) c.standing-item.is in
    one_more (standing_left c.args.world.now) c.args.states.now c.loop-standing.sum i x _ _ at c.standing_left.ensures c.saturating_add-sum.ensures
    c.loop-standing.invariant

pub returns : goal.returns
returns g c =
    all_summed (standing_left c.args.world.now) c.args.states.now c.loop-standing.sum c.loop-standing.standing-index (omega arith)
    c.loop-standing.invariant
