use Rattle.std.proofs.Common.{◌≡◌, List, [], map, length, sym, subst, ap, ◌∙◌}
use Rattle.scoop_weaver.specs.declared.trail.Passage.{Passage}
use Rattle.scoop_weaver.specs.Trails.{AllNumbered, IsTrailRun, HasOrder}
use Rattle.scoop_weaver.specs.Weaving.{IsNoWeave}
use Rattle.scoop_weaver.proofs.Along.{have_is, run_at_first, zeros_len}
use Rattle.std.specs.Prelude.{IfErr, IfOk}
use Rattle.scoop_weaver.proofs.trails.weave_trails.Goals as goal

pub loop-party-init : goal.loop-party-init
loop-party-init g c = (
  zeros_len c.args.trails.now c.in-Ok-first_places.places.items c.in-Ok-first_places.ensures,
  λ all.
      subst (λ us. IsTrailRun c.args.post.now c.args.trails.now c.in-Ok-first_places.places.items us c.in-Ok.sent.items) (sym c.new-order.ensures.items)
      (run_at_first c.args.post.now c.args.trails.now c.in-Ok-first_places.places.items c.in-Ok.sent.items c.in-Ok-first_places.ensures c.in-Ok.ensures.none
      (c.in-Ok.ensures.count ∙ c.len.ensures.value) c.len.ensures.once),
)

pub loop-party-preserved : goal.loop-party-preserved
loop-party-preserved g c = (
  c.in-Ok-take.ensures.count ∙ c.loop-party.invariant.0,
  λ all. c.in-Ok-take.ensures.run c.args.post.now all (c.loop-party.invariant.1 all),
)

pub returns-clause-woven : goal.returns-clause-woven
returns-clause-woven g c parties have =
    let h = have_is c.args.post.now c.args.trails.now parties have in
    subst (λ ps. IfOk c.ending.result (λ turns. HasOrder ps turns.items)) h.0
    (c.ending.ensures.woven c.args.post.now h.1
    (subst (λ ks. IsTrailRun c.args.post.now c.args.trails.now ks c.loop-party.order.items c.loop-party.sent.items) (sym c.deref-2.ensures.value)
    (c.loop-party.invariant.1 h.1)))

pub returns-clause-unexplained : goal.returns-clause-unexplained
returns-clause-unexplained g c parties have =
    let h = have_is c.args.post.now c.args.trails.now parties have in
    subst (λ ps. IfErr c.ending.result (IsNoWeave ps)) h.0
    (c.ending.ensures.unexplained c.args.post.now h.1
    (subst (λ ks. IsTrailRun c.args.post.now c.args.trails.now ks c.loop-party.order.items c.loop-party.sent.items) (sym c.deref-2.ensures.value)
    (c.loop-party.invariant.1 h.1)))
