use Rattle.std.proofs.Common.{sym, subst, []}
use Rattle.scoop_weaver.specs.Weaving.{IsRun}
use Rattle.scoop_weaver.proofs.Taking.{nothing_run}
use Rattle.scoop_weaver.proofs.weaving.weave.Goals as goal

pub loop-party-init : goal.loop-party-init
loop-party-init g c =
    subst (λ s. IsRun c.args.parties.now c.in-Ok.places.items c.new-order.result.items s) (sym c.new-sent.ensures)
    (subst (λ o. IsRun c.args.parties.now c.in-Ok.places.items o []) (sym c.new-order.ensures.items)
    (nothing_run c.args.parties.now c.in-Ok.places.items c.in-Ok.ensures))
