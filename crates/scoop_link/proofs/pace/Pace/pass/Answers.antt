use Rattle.std.proofs.Common.{refl}
use Rattle.scoop_link.proofs.pace.Pace.pass.Goals as goal

pub returns : goal.returns
returns g c =
    rw (← c.self.view_is, c.put.ensures.items, c.next-last.ensures, c.deref.ensures.value, c.saturating_add-self-inside.ensures) refl
