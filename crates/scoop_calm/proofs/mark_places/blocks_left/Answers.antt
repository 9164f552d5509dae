use Rattle.std.proofs.Common.{arith}
use Rattle.scoop_keeper.proofs.Keyed.{some_at}
use Rattle.scoop_calm.specs.Bound.{block_left}
use Rattle.scoop_calm.proofs.Sums.{one_more, all_summed}
use Rattle.scoop_calm.proofs.mark_places.blocks_left.Goals as goal

pub loop-place-preserved : goal.loop-place-preserved
loop-place-preserved g c =
    let logs = c.args.world.now.logs in
    let i = c.loop-place.place in
    let l = some_at logs i (omega arith) in
    one_more (block_left c.args.handler c.args.mark.now) logs c.loop-place.sum i l.0 _ _ l.1 (c.block_left.ensures l.0 l.1) c.saturating_add-sum.ensures
    c.loop-place.invariant

pub returns : goal.returns
returns g c =
    all_summed (block_left c.args.handler c.args.mark.now) c.args.world.now.logs c.loop-place.sum c.loop-place.place (omega arith)
    c.loop-place.invariant
