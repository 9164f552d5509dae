use Rattle.scoop_session.proofs.Driven.{drives_turning}
use Rattle.scoop_session.proofs.session.Session.lock.Goals as goal

pub returns-in-Err-unlock-clause-drives : goal.returns-in-Err-unlock-clause-drives
returns-in-Err-unlock-clause-drives g c = drives_turning _ _ _ _ _ _ c.in-Ok-true.ensures.does c.in-Err-unlock.ensures.turned

pub returns-in-Ok-clause-drives : goal.returns-in-Ok-clause-drives
returns-in-Ok-clause-drives g c = drives_turning _ _ _ _ _ _ c.in-Ok-true.ensures.does c.unlock.ensures.turned

pub returns-in-Ok-2-clause-drives : goal.returns-in-Ok-2-clause-drives
returns-in-Ok-2-clause-drives g c = drives_turning _ _ _ _ _ _ c.in-Ok-true.ensures.does c.in-Ok.ensures.turned
