use Rattle.std.proofs.Common.{List, subst}
use Rattle.scoop_message.specs.declared.name.HandlerId.{HandlerId}
use Rattle.scoop_client.specs.declared.command.Command.TheVariants.{Reserve}
use Rattle.scoop_client.specs.Commands.{command}
use Rattle.scoop_world.specs.Answers.{IsRefusal}
use Rattle.scoop_world.proofs.party.Party.no_room_to_reserve.Goals as goal

pub returns : goal.returns
returns g c =
    let p = c.self.inside in
    let told : IsRefusal (command p.client (Reserve c.as_slice.result.now)) c.refused_or_full.result =
    c.refused_or_full.ensures (command p.client (Reserve c.as_slice.result.now)) c.may_reserve.ensures in
    let named : IsRefusal (command p.client (Reserve c.args.handlers.now)) c.refused_or_full.result =
    subst (λ (hs : List HandlerId). IsRefusal (command p.client (Reserve hs)) c.refused_or_full.result) c.as_slice.ensures.value told in
    rw (← c.self.view_is) named
