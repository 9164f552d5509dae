use Rattle.std.proofs.Common.{arith}
use Rattle.scoop_keeper.proofs.Keyed.{item_at}
use Rattle.scoop_calm.specs.Left.{window_work}
use Rattle.scoop_calm.proofs.Sums.{one_more, all_summed}
use Rattle.scoop_calm.proofs.work.windows_work.Goals as goal

pub loop-window-preserved : goal.loop-window-preserved
loop-window-preserved g c =
    let x = c.window-item.result in
    let i = c.loop-window.window-index in
    let at = item_at c.args.windows.now i x (omega arith) c.window-item.is in
    one_more window_work c.args.windows.now c.loop-window.sum i x _ _ at c.window_work.ensures c.saturating_add-sum.ensures c.loop-window.invariant

pub returns : goal.returns
returns g c = all_summed window_work c.args.windows.now c.loop-window.sum c.loop-window.window-index (omega arith) c.loop-window.invariant
