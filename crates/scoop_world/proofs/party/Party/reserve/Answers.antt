use Rattle.std.proofs.Common.{List, ap, subst}
use Rattle.scoop_message.specs.declared.name.HandlerId.{HandlerId}
use Rattle.scoop_client.specs.State.{ClientState}
use Rattle.scoop_client.specs.declared.command.Command.TheVariants.{Reserve}
use Rattle.scoop_client.specs.Commands.{command}
use Rattle.scoop_world.specs.Answers.{IsRefusal}
use Rattle.scoop_world.specs.Kept.{party_kept}
use Rattle.scoop_world.proofs.party.Party.reserve.Goals as goal

pub returns-in-Err-clause-taken : goal.returns-in-Err-clause-taken
returns-in-Err-clause-taken g c =
    let p = c.self.inside in
    let told : IsRefusal (command p.client (Reserve c.as_slice.result.now)) c.refused.result =
    c.refused.ensures (command p.client (Reserve c.as_slice.result.now)) c.in-Err.ensures.0 in
    let named : IsRefusal (command p.client (Reserve c.args.handlers.now)) c.refused.result =
    subst (λ (hs : List HandlerId). IsRefusal (command p.client (Reserve hs)) c.refused.result) c.as_slice.ensures.value told in
    rw (← c.self.view_is) (named, ap (λ (d : ClientState). party_kept p.newest d p.accepted.items) c.in-Err.ensures.1)
