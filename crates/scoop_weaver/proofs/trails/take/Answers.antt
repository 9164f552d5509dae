use Rattle.std.proofs.Common.{◌≡◌, ◌<◌, Some, length, slice_get, sym, subst, ap, ◌∙◌, ◌+◌, set}
use Rattle.std.specs.Prelude.{slice_index}
use Rattle.scoop_weave.specs.Order.{party_at}
use Rattle.scoop_weaver.specs.Trails.{IsReadyBy, IsTrailRun}
use Rattle.scoop_weaver.proofs.Along.{Notes, less_from, place_is, run_from, step_there}
use Rattle.scoop_weaver.proofs.trails.take.Goals as goal

pub returns-clause-run : goal.returns-clause-run
returns-clause-run g c post all run =
    let trails = c.args.trails.now in
    let places = c.args.places.now.items in
    let p = c.args.party in
    let k = c.index-place.result.now in
    let x = c.in-Some.next in
    let n = c.note_sent.ensures in
    let is : slice_index places p ≡ k = place_is places p k (subst (λ n. p < n) (sym c.requires.count) c.requires.within) c.index-place.ensures in
    let step : slice_get (party_at trails p) k ≡ Some x =
    step_there trails p k c.index-trails-party.result x c.requires.within c.index-trails-party.is c.in-Some.ensures.value in
    subst (λ us. IsTrailRun post trails (set places p (k + 1)) us c.note_sent.new.sent.items) (sym c.in-Ok.ensures.items)
    (run_from post trails places c.args.order.now.items c.args.sent.now.items c.note_sent.new.sent.items p k x is all c.requires.within step
    (subst (IsReadyBy c.args.sent.now.items) (ap (slice_get (party_at trails p)) is ∙ step) c.requires.ready)
    (record { only = n.only; keeps = n.keeps; noted = n.noted; count = n.count }) run)

pub returns-clause-left : goal.returns-clause-left
returns-clause-left g c =
    let trails = c.args.trails.now in
    let places = c.args.places.now.items in
    let p = c.args.party in
    let k = c.index-place.result.now in
    let x = c.in-Some.next in
    let within : p < length places = subst (λ n. p < n) (sym c.requires.count) c.requires.within in
    let step : slice_get (party_at trails p) k ≡ Some x =
    step_there trails p k c.index-trails-party.result x c.requires.within c.index-trails-party.is c.in-Some.ensures.value in
    less_from trails places p k x (place_is places p k within c.index-place.ensures) within step
