use Rattle.std.proofs.Common.{arith, refl, sym}
use Rattle.scoop_calm.specs.Bound.{hold_left}
use Rattle.scoop_calm.proofs.Sums.{one_more, all_summed, held_fits}
use Rattle.scoop_calm.proofs.counting.holds_left.Goals as goal

pub loop-place-preserved : goal.loop-place-preserved
loop-place-preserved g c =
    let marks = c.args.state.now.marks in
    let i = c.loop-place.place in
    let is = c.hold_left.ensures c.in-Some.mark refl in
    one_more hold_left marks c.loop-place.sum i c.in-Some.mark _ _ (sym c.in-Some.ensures) (held_fits c.in-Some.mark _ is) c.saturating_add-sum.ensures
    c.loop-place.invariant

pub returns : goal.returns
returns g c =
    all_summed hold_left c.args.state.now.marks c.loop-place.sum c.loop-place.place (omega arith) c.loop-place.invariant
