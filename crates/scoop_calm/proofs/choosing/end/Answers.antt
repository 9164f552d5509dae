use Rattle.std.proofs.Common.{Some, sym, ap, ◌∙◌}
use Rattle.std.specs.Option.{option_map}
use Rattle.std.specs.Result.{is_ok}
use Rattle.scoop_message.specs.declared.name.ClientId.{ClientId}
use Rattle.scoop_client.specs.State.{ClientState}
use Rattle.scoop_client.specs.declared.command.Command.TheVariants.{End as DoEnd}
use Rattle.scoop_client.specs.Commands.{command}
use Rattle.scoop_model.specs.World.{Party, id_of}
use Rattle.scoop_calm.specs.declared.next.Next.TheVariants as next
use Rattle.scoop_calm.specs.Next.{can_end}
use Rattle.scoop_calm.proofs.Firsts.{found_here, not_here, party_at}
use Rattle.scoop_calm.proofs.choosing.end.Goals as goal

pub returns-then-can_end : goal.returns-then-can_end
returns-then-can_end g c =
    let ps = c.args.world.now.parties in
    let i = c.loop-place.place in
    let n : ClientId × ClientState = (c.in-Some.id, c.in-Some.client.now) in
    let p = party_at ps i n c.in-Some.ensures in
    let can = ap (λ (x : ClientId × ClientState). is_ok (command x.1 DoEnd)) p.is ∙ sym c.can_end.ensures ∙ c.if-can_end.true in
    ap (λ (x : ClientId × ClientState). Some (next.End x.0)) (sym p.is)
    ∙ sym (ap (option_map (λ (x : Party). next.End (id_of x))) (found_here can_end ps i p.party p.at c.loop-place.invariant can))

pub loop-place-preserved : goal.loop-place-preserved
loop-place-preserved g c =
    let ps = c.args.world.now.parties in
    let i = c.loop-place.place in
    let n : ClientId × ClientState = (c.in-Some.id, c.in-Some.client.now) in
    let p = party_at ps i n c.in-Some.ensures in
    let cannot = ap (λ (x : ClientId × ClientState). is_ok (command x.1 DoEnd)) p.is ∙ sym c.can_end.ensures ∙ c.if-can_end.false in
    not_here can_end ps i p.party p.at c.loop-place.invariant cannot
