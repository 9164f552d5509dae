use Rattle.std.proofs.Common.{◌≡◌, ◌<◌, Some, slice_get, sym, subst, ◌+◌, set}
use Rattle.std.specs.Prelude.{slice_index}
use Rattle.scoop_weave.specs.Order.{party_at}
use Rattle.scoop_weaver.specs.Weaving.{IsReady, IsRun}
use Rattle.scoop_weaver.proofs.Taking.{left_less, next_there, run_more}
use Rattle.scoop_weaver.proofs.weaving.take.Goals as goal

pub returns-clause-run : goal.returns-clause-run
returns-clause-run g c =
    let parties = c.args.parties.now in
    let places = c.args.places.now in
    let p = c.args.party in
    let t = c.in-Some.next in
    let next : slice_get (party_at parties p) (slice_index places p) ≡ Some t =
    next_there parties p (slice_index places p) c.index-parties-party.result t c.requires.within c.index-parties-party.is c.in-Some.ensures.value in
    subst (λ xs. IsRun parties (set places p (slice_index places p + 1)) xs c.note_sent.new.sent) (sym c.in-Ok-push.ensures.items)
    (run_more parties places c.args.order.now.items c.args.sent.now c.note_sent.new.sent p t c.requires.run c.requires.within next
    (subst (IsReady c.args.sent.now) next c.requires.ready) c.in-Ok.ensures.sent)

pub returns-clause-left : goal.returns-clause-left
returns-clause-left g c =
    let parties = c.args.parties.now in
    let places = c.args.places.now in
    let p = c.args.party in
    let next : slice_get (party_at parties p) (slice_index places p) ≡ Some c.in-Some.next =
    next_there parties p (slice_index places p) c.index-parties-party.result c.in-Some.next c.requires.within c.index-parties-party.is
    c.in-Some.ensures.value in
    left_less parties places p c.in-Some.next (subst (λ n. p < n) (sym c.requires.run.count) c.requires.within) next
