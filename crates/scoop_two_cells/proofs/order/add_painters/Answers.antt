use Rattle.std.proofs.Common.{◌++◌, map, take, ap, ◌∙◌}
use Rattle.std.proofs.lemmas.List.{take_all, take_more}
use Rattle.scoop_two_cells.proofs.Gathered.{next_gathered}
use Rattle.scoop_two_cells.proofs.order.add_painters.Goals as goal

pub loop-painter-preserved : goal.loop-painter-preserved
loop-painter-preserved g c =
    let i = c.loop-painter.painter-index in
    let ps = c.args.painters.now in
    next_gathered _ (take i ps) _ _ _ c.args.parties.now.items _ _ _ c.loop-painter.invariant (take_more ps i _ c.loop-painter-test.true)
    c.in_ok-party.ensures c.painter-item.is c.in_ok-push.ensures.items

pub returns : goal.returns
returns g c = rw (← take_all c.loop-painter.painter-index c.args.painters.now c.loop-painter-test.false) c.loop-painter.invariant
