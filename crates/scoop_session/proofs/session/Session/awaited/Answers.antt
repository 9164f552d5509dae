use Rattle.std.proofs.Common.{take, refl}
use Rattle.std.proofs.lemmas.List.{take_all, take_more}
use Rattle.scoop_session.specs.Parting.{is_awaited}
use Rattle.scoop_session.proofs.Gathered.{filtered_more}
use Rattle.scoop_session.proofs.session.Session.awaited.Goals as goal

pub loop-handler-preserved : goal.loop-handler-preserved
loop-handler-preserved g c =
    let i = c.loop-handler.handler-index in
    let all = c.args.handlers.now in
    filtered_more (is_awaited c.args.self.now.driver.seen.client) (take i all) _ _ _ _ _ c.loop-handler.invariant
    (take_more all i _ c.loop-handler-test.true) refl c.in_ok-add_awaited.ensures

pub returns : goal.returns
returns g c = rw (← take_all c.loop-handler.handler-index c.args.handlers.now c.loop-handler-test.false) c.loop-handler.invariant
