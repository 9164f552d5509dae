use Rattle.std.proofs.Common.{take}
use Rattle.scoop_seal.proofs.Opening.{refuses_one}
use Rattle.scoop_seal.proofs.sealed_link.SealedLink.take.Goals as goal

pub returns-in-None-clause-taken : goal.returns-in-None-clause-taken
returns-in-None-clause-taken g c =
    let taken = rw c.in-Some.is at c.in_ok-len.ensures.told in
    rw (← c.self.view_is) (
      take c.in-Some.len c.receive.new.buffer,
      refuses_one _ _ _ c.self.inside.refused _ _ taken c.in-None.ensures.forged c.saturating_add-self-inside.ensures,
    )
