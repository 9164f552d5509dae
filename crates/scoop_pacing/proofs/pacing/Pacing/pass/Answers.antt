use Rattle.std.proofs.Common.{refl}
use Rattle.scoop_pacing.proofs.pacing.Pacing.pass.Goals as goal

pub returns : goal.returns
returns g c =
    rw (← c.self.view_is, c.put.ensures.items, c.next-ask.ensures, c.deref.ensures.value, c.next_seed-self-inside.ensures) refl
