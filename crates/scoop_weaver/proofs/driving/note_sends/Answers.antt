use Rattle.std.proofs.Common.{◌++◌, take, refl, ap, ◌∙◌}
use Rattle.std.proofs.lemmas.List.{take_all, take_more}
use Rattle.scoop_weave.specs.ClientSteps.{sends_to}
use Rattle.scoop_weaver.proofs.Anew.{passed, next_send}
use Rattle.scoop_weaver.proofs.driving.note_sends.Goals as goal

pub loop-handler-preserved : goal.loop-handler-preserved
loop-handler-preserved g c =
    let i = c.loop-handler.handler-index in
    let hs = c.args.handlers.now in
    next_send c.args.client.now (take i hs) _ _ _ c.args.moves.now.items _ _ _ c.loop-handler.invariant (take_more hs i _ c.loop-handler-test.true)
    c.sending-next.ensures refl c.in_ok-push.ensures.items

pub returns : goal.returns
returns g c =
    c.loop-handler.invariant
    ∙ ap (λ hs. c.args.moves.now.items ++ passed (sends_to c.args.client.now hs))
    (take_all c.loop-handler.handler-index c.args.handlers.now c.loop-handler-test.false)
