use Rattle.std.proofs.Common.{◌≡◌, get_or, refl, arith}
use Rattle.scoop_frame.proofs.Bytes.{value_is}
use Rattle.scoop_frame.proofs.answer.answer_from.Goals as goal

pub returns-in-1 : goal.returns-in-1
returns-in-1 c =
    let b = c.args.bytes.now in
    let tag : get_or b 0 0 ≡ 1 = omega arith in
    (omega arith, refl, value_is b c.u64_at.result (λ i. omega (arith, c.type_inv.bytes i)) (omega arith) tag c.u64_at.ensures)
