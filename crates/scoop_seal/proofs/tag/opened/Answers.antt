use Rattle.std.proofs.Common.{sym, ◌∙◌, arith}
use Rattle.std.proofs.Math.Nat.{lt_of_not-le}
use Rattle.std.proofs.lemmas.Bool.{false≢true}
use Rattle.std.proofs.lemmas.List.{take_rest}
use Rattle.scoop_seal.proofs.Seals.{short-forged, other-forged}
use Rattle.scoop_seal.proofs.tag.opened.Goals as goal

pub returns-in_err-len-clause-forged : goal.returns-in_err-len-clause-forged
returns-in_err-len-clause-forged c =
    rw c.from_residual.ensures (short-forged _ _ (lt_of_not-le c.in_err-len.ensures))

pub returns-else-same_tag-clause-forged : goal.returns-else-same_tag-clause-forged
returns-else-same_tag-clause-forged c =
    let h = c.in_ok-len.ensures in
    let behind = c.copy_from_slice.ensures.after ∙ take_rest c.args.datagram.now c.in_ok-len.len in
    other-forged _ _ c.in_ok-len.len (omega (arith, h.0, h.1)) (λ e. false≢true (c.if-same_tag.ensures.1 (c.tag.ensures ∙ (e ∙ sym behind))))
