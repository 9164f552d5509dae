use Rattle.std.proofs.Common.{arith, get_or}
use Rattle.std.proofs.lemmas.List.{get_or_default}
use Rattle.std.proofs.lemmas.List.Edits.{map_over_more}
use Rattle.scoop_owner.specs.Owner.{joined}
use Rattle.scoop_owner.proofs.text.join_lines.Goals as goal

pub loop-byte-preserved : goal.loop-byte-preserved
loop-byte-preserved c =
    let i = c.loop-byte.byte-index in
    rw (c.joined.ensures) (map_over_more joined c.args.text.now c.loop-byte.text i (get_or c.loop-byte.text i 0) (omega arith) c.loop-byte.invariant
    (get_or_default c.loop-byte.text i 0 _ (omega arith)))
