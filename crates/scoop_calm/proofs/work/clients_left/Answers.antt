use Rattle.std.proofs.Common.{arith, ap, sym, ◌∙◌}
use Rattle.scoop_message.specs.declared.name.ClientId.{ClientId}
use Rattle.scoop_client.specs.State.{ClientState}
use Rattle.scoop_model.specs.World.{Party}
use Rattle.scoop_calm.specs.Capped.{capped}
use Rattle.scoop_calm.specs.Left.{client_work}
use Rattle.scoop_calm.proofs.Firsts.{party_at}
use Rattle.scoop_calm.proofs.Sums.{one_more, all_summed}
use Rattle.scoop_calm.proofs.work.clients_left.Goals as goal

pub loop-place-preserved : goal.loop-place-preserved
loop-place-preserved g c =
    let ps = c.args.world.now.parties in
    let i = c.loop-place.place in
    let p = party_at ps i _ c.in-Some.ensures in
    let is = c.client_work.ensures ∙ ap (λ (x : ClientId × ClientState). capped (client_work x.1)) (sym p.is) in
    one_more (λ (x : Party). client_work x.client) ps c.loop-place.sum i p.party _ _ p.at is c.saturating_add-sum.ensures c.loop-place.invariant

pub returns : goal.returns
returns g c =
    all_summed (λ (x : Party). client_work x.client) c.args.world.now.parties c.loop-place.sum c.loop-place.place (omega arith)
    c.loop-place.invariant
