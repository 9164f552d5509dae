use Rattle.scoop_client.specs.State.{phase_of}
use Rattle.scoop_client.specs.declared.command.Command.TheVariants.{End as DoEnd}
use Rattle.scoop_client.specs.Commands.{command, log}
use Rattle.scoop_world.proofs.party.Party.no_room_to_log.Goals as goal

pub returns-in-Some : goal.returns-in-Some
returns-in-Some g c =
    let p = c.self.inside in
    let h = c.in-Some.handler in
    rw (c.in-Some.is, ← c.self.view_is) (λ e. c.refused_or_full.ensures (log p.client h e (phase_of p.client)) (c.may_log.ensures e))

pub returns-in-None : goal.returns-in-None
returns-in-None g c = rw (c.in-None.is, ← c.self.view_is) (c.refused_or_full-in-None.ensures (command c.self.inside.client DoEnd) c.may_end.ensures.told)
