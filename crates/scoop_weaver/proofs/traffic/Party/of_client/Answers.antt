use Rattle.std.proofs.Common.{take, sym, ap, ◌∙◌}
use Rattle.std.proofs.lemmas.List.{take_all, take_more}
use Rattle.scoop_weave.specs.ClientSteps.{moves_by}
use Rattle.scoop_weaver.proofs.Anew.{passed, next_step}
use Rattle.scoop_weaver.proofs.traffic.Party.of_client.Goals as goal

pub loop-step-preserved : goal.loop-step-preserved
loop-step-preserved g c =
    let i = c.loop-step.step-index in
    let ss = c.args.steps.now in
    next_step c.args.client _ _ (take i ss) _ _ _ _ _ c.loop-step.invariant.0 c.loop-step.invariant.1 (take_more ss i c.step-item.result c.loop-step-test.true)
    c.step-item.is c.in_ok-note_step.ensures c.in_ok-make_step.ensures

pub returns : goal.returns
returns g c d is =
    let ss = c.args.steps.now in
    c.loop-step.invariant.0
    ∙ (ap (λ xs. passed (moves_by c.args.client xs)) (take_all c.loop-step.step-index ss c.loop-step-test.false) ∙ ap (λ x. passed (moves_by x ss)) (sym is))
