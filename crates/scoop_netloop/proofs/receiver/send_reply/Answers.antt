use Rattle.std.proofs.Common.{[], subst}
use Rattle.scoop_message.specs.declared.name.ClientId.{ClientId}
use Rattle.scoop_frame.specs.Frame.{frame}
use Rattle.scoop_link.specs.declared.party.Party.TheVariants.{Client}
use Rattle.scoop_link.specs.Link.{Exchanges, sent_by}
use Rattle.scoop_netloop.proofs.Turns.{sent_front}
use Rattle.scoop_netloop.proofs.receiver.send_reply.Goals as goal

pub returns-clause-told : goal.returns-clause-told
returns-clause-told g c =
    subst (λ (to : ClientId). Exchanges (g.L.Link.told c.args.link.now) (g.L.Link.told c.send.new.self) []
    (sent_by c.send.result (Client to) (frame c.args.version c.args.reply.now))) c.client.ensures
    (sent_front _ _ _ _ _ _ _ _ c.encode-len.ensures.bytes c.encode-len.ensures.len c.send.ensures.told)
