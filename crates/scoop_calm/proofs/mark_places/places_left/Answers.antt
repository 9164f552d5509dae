use Rattle.std.proofs.Common.{arith, ap, sym, ◌∙◌}
use Rattle.scoop_message.specs.declared.name.ClientId.{ClientId}
use Rattle.scoop_client.specs.State.{ClientState}
use Rattle.scoop_calm.specs.Bound.{mark_at, places_from, places_left}
use Rattle.scoop_calm.specs.Capped.{capped}
use Rattle.scoop_calm.proofs.Firsts.{party_at}
use Rattle.scoop_calm.proofs.Sums.{one_more, all_summed}
use Rattle.scoop_calm.proofs.mark_places.places_left.Goals as goal

pub loop-place-preserved : goal.loop-place-preserved
loop-place-preserved g c =
    let w = c.args.world.now in
    let s = c.args.state.now in
    let i = c.loop-place.place in
    let n : ClientId × ClientState = (c.in-Some.id, c.in-Some.client.now) in
    let p = party_at w.parties i n c.in-Some.ensures in
    let is =
    c.places_from.ensures ∙ (λ j. capped (places_from w.logs (c.handler.ensures.value j) (c.inc.ensures j) (c.mark_at-mark.ensures j)))
    ∙ ap (λ (x : ClientId × ClientState). capped (places_from w.logs s.number x.1.inc (mark_at x.0 s.marks))) (sym p.is) in
    one_more (places_left w.logs s) w.parties c.loop-place.sum i p.party _ _ p.at is c.saturating_add-sum.ensures c.loop-place.invariant

pub returns : goal.returns
returns g c =
    all_summed (places_left c.args.world.now.logs c.args.state.now) c.args.world.now.parties c.loop-place.sum c.loop-place.place (omega arith)
    c.loop-place.invariant
