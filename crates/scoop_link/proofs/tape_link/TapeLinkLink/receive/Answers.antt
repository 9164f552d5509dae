use Rattle.std.proofs.Common.{sym}
use Rattle.std.proofs.lemmas.List.{append-nil}
use Rattle.scoop_link.proofs.Tapes.{tape_exchanges, taken_by-first}
use Rattle.scoop_link.proofs.tape_link.TapeLinkLink.receive.Goals as goal

pub returns-clause-told : goal.returns-clause-told
returns-clause-told g c =
    rw (← c.self.view_is)
    (tape_exchanges _ _ _ _ _ _ (λ e. e) record { to_come = taken_by-first _ _ _ _ _ c.take_first.ensures.first; sent = sym (append-nil _) })
