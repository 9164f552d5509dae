use Rattle.std.proofs.Common.{refl, sym}
use Rattle.std.proofs.lemmas.List.{append-nil}
use Rattle.scoop_link.proofs.Tapes.{tape_exchanges}
use Rattle.scoop_link.proofs.tape_link.TapeLinkLink.send.Goals as goal

pub returns-then-len-self-clause-told : goal.returns-then-len-self-clause-told
returns-then-len-self-clause-told g c =
    rw (← c.self.view_is, c.push_reserved.ensures.items, c.of.ensures) (tape_exchanges _ _ _ _ _ _ (λ e. e) record { to_come = refl; sent = refl })

pub returns-clause-told : goal.returns-clause-told
returns-clause-told g c =
    rw (← c.self.view_is) (tape_exchanges _ _ _ _ _ _ (λ e. absurd (c.if-self.false e)) record { to_come = refl; sent = sym (append-nil _) })
