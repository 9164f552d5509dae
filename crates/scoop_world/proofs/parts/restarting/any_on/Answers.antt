use Rattle.std.proofs.Common.{◌≡◌, false, ◌||◌, get_or, sym, ap, ◌∙◌, arith}
use Rattle.std.specs.List.{list_any}
use Rattle.std.proofs.lemmas.List.{take_all}
use Rattle.std.proofs.lemmas.List.Folds.{list_any_more}
use Rattle.scoop_world.specs.Kept.{on_node}
use Rattle.scoop_world.proofs.parts.restarting.any_on.Goals as goal

pub loop-site-preserved : goal.loop-site-preserved
loop-site-preserved g c =
    let p = on_node c.args.node in
    let sites = c.args.sites.now in
    let i = c.loop-site.site-index in
    let x = c.site-item.result in
    let off : p (get_or sites i x) ≡ false = rw (← c.site-item.is) (sym c.is_on.ensures ∙ c.if-is_on.false) in
    list_any_more p sites i x (omega arith) ∙ ap (λ b. b || p (get_or sites i x)) c.loop-site.invariant ∙ off

pub returns : goal.returns
returns g c = sym (ap (list_any (on_node c.args.node)) (sym (take_all c.loop-site.site-index c.args.sites.now (omega arith))) ∙ c.loop-site.invariant)
