use Rattle.std.proofs.Common.{get_or, bit_xor, ℕ, arith}
use Rattle.std.proofs.lemmas.List.{get_or_default}
use Rattle.std.proofs.lemmas.List.Edits.{map_over_more}
use Rattle.scoop_seal.proofs.mac.mix.Goals as goal

pub loop-b-preserved : goal.loop-b-preserved
loop-b-preserved c =
    let i = c.loop-b.b-index in
    let ys = c.loop-b.b-items in
    map_over_more (λ (b : ℕ). bit_xor b c.args.byte) c.args.block.now ys i (get_or ys i 0) (omega arith) c.loop-b.invariant
    (get_or_default ys i 0 _ (omega arith))
