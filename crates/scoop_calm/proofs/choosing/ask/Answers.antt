use Rattle.std.proofs.Common.{◌≡◌, ◌+◌, drop, sym, ap, ◌∙◌}
use Rattle.std.specs.Prelude.{is_some}
use Rattle.scoop_message.specs.declared.name.ClientId.{ClientId}
use Rattle.scoop_client.specs.State.{ClientState}
use Rattle.scoop_model.specs.World.{id_of}
use Rattle.scoop_world.specs.Standing.{Standing}
use Rattle.scoop_calm.specs.declared.next.Next.TheVariants as next
use Rattle.scoop_calm.specs.Next.{ask_of, next_ask}
use Rattle.scoop_calm.specs.Standing.{gets_from, first_ask}
use Rattle.scoop_calm.proofs.Firsts.{drop_get, or_some, or_none, party_at, standing_found}
use Rattle.scoop_calm.proofs.choosing.ask.Goals as goal

pub returns-then-is_some : goal.returns-then-is_some
returns-then-is_some g c =
    let ss = c.args.world.now.sites in
    let ps = c.args.world.now.parties in
    let i = c.loop-place.place in
    let n : ClientId × ClientState = (c.in-Some.id, c.in-Some.client.now) in
    let p = party_at ps i n c.in-Some.ensures in
    let asked : c.first_ask-next.result ≡ ask_of ss p.party =
    c.first_ask-next.ensures ∙ (λ j. first_ask (sym p.is j).0 (sym p.is j).1 (c.requires j))
    ∙ standing_found (gets_from p.party.client) (λ (s : Standing). next.Ask (id_of p.party) s.state.number) ss in
    let some = ap is_some (sym asked) ∙ sym c.is_some.ensures ∙ c.if-is_some.true in
    asked ∙ sym (or_some (ask_of ss p.party) (next_ask ss (drop (i + 1) ps)) some) ∙ sym (ap (next_ask ss) (drop_get ps i p.party p.at))
    ∙ c.loop-place.invariant

pub loop-place-preserved : goal.loop-place-preserved
loop-place-preserved g c =
    let ss = c.args.world.now.sites in
    let ps = c.args.world.now.parties in
    let i = c.loop-place.place in
    let n : ClientId × ClientState = (c.in-Some.id, c.in-Some.client.now) in
    let p = party_at ps i n c.in-Some.ensures in
    let asked : c.first_ask-next.result ≡ ask_of ss p.party =
    c.first_ask-next.ensures ∙ (λ j. first_ask (sym p.is j).0 (sym p.is j).1 (c.requires j))
    ∙ standing_found (gets_from p.party.client) (λ (s : Standing). next.Ask (id_of p.party) s.state.number) ss in
    let none = ap is_some (sym asked) ∙ sym c.is_some.ensures ∙ c.if-is_some.false in
    sym (or_none (ask_of ss p.party) (next_ask ss (drop (i + 1) ps)) none) ∙ sym (ap (next_ask ss) (drop_get ps i p.party p.at)) ∙ c.loop-place.invariant
