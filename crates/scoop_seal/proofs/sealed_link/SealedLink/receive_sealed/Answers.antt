use Rattle.std.proofs.Common.{◌∙◌}
use Rattle.scoop_seal.proofs.Opening.{so_far-also}
use Rattle.scoop_seal.proofs.sealed_link.SealedLink.receive_sealed.Goals as goal

pub loop-preserved : goal.loop-preserved
loop-preserved g c =
    let taken = rw c.in-Ok-Forged.field-0-is at c.in-Ok-Forged.ensures.taken in
    record {
      so_far = so_far-also _ _ _ _ _ _ _ _ c.loop.invariant.so_far taken;
      key = c.in-Ok-Forged.ensures.others.0 ∙ c.loop.invariant.key;
      faults = c.in-Ok-Forged.ensures.others.1 ∙ c.loop.invariant.faults;
      inner = c.in-Ok-Forged.ensures.faults ∙ c.loop.invariant.inner;
    }
