use Rattle.scoop_session.proofs.Driven.{gives_up_then}
use Rattle.scoop_session.proofs.session.Session.give_up.Goals as goal

pub returns-in-Ok : goal.returns-in-Ok
returns-in-Ok g c = gives_up_then _ _ _ _ c.in-Ok.ensures.does c.rest.ensures.idle c.rest.ensures.turned
