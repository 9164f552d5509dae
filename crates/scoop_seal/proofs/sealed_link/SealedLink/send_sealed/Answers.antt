use Rattle.std.proofs.Common.{arith}
use Rattle.scoop_seal.proofs.Seals.{length-sealed}
use Rattle.scoop_seal.proofs.Sending.{gone_by}
use Rattle.scoop_seal.proofs.sealed_link.SealedLink.send_sealed.Goals as goal

pub returns-clause-sealed : goal.returns-clause-sealed
returns-clause-sealed g c =
    λ fits.
    let len = length-sealed c.args.key.now c.args.bytes.now in
    rw (← c.self.view_is) (gone_by c.send-sent.result _ _ _ _ c.args.to _ _ c.seal-len.ensures.sealed
    (omega (arith, fits, len)) c.send-sent.ensures.faults c.send-sent.ensures.told)
