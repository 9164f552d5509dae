use Rattle.std.proofs.Common.{◌++◌, map, take, ap, ◌∙◌}
use Rattle.std.proofs.lemmas.List.{take_all, take_more}
use Rattle.scoop_two_cells.specs.Orders.{node_traffic}
use Rattle.scoop_two_cells.proofs.Gathered.{next_gathered}
use Rattle.scoop_two_cells.proofs.order.add_nodes.Goals as goal

pub loop-history-preserved : goal.loop-history-preserved
loop-history-preserved c =
    let i = c.loop-history.history-index in
    let hs = c.args.histories.now in
    next_gathered _ (take i hs) _ _ _ c.args.parties.now.items _ _ _ c.loop-history.invariant (take_more hs i _ c.loop-history-test.true)
    (c.in_ok-party.ensures 0 ∙ ap node_traffic c.deref.ensures.value) c.history-item.is c.in_ok-push.ensures.items

pub returns : goal.returns
returns c = rw (← take_all c.loop-history.history-index c.args.histories.now c.loop-history-test.false) c.loop-history.invariant
