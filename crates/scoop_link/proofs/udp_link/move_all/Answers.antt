use Rattle.std.proofs.Common.{arith}
use Rattle.std.proofs.lemmas.List.{get_or_default}
use Rattle.std.proofs.lemmas.List.Edits.{map_over_more}
use Rattle.scoop_link.specs.Udp.{moved}
use Rattle.scoop_link.proofs.udp_link.move_all.Goals as goal

pub loop-listed-preserved : goal.loop-listed-preserved
loop-listed-preserved g c =
    let i = c.loop-listed.listed-index in
    rw (c.move_to.ensures) (map_over_more (moved c.args.party c.args.to) c.args.addresses.now.items c.loop-listed.listed-items i _ (omega arith)
    c.loop-listed.invariant (get_or_default c.loop-listed.listed-items i _ _ (omega arith)))
