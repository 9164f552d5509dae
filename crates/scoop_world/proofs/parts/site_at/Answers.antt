use Rattle.std.proofs.Common.{◌≡◌, true, false, find, get_or, sym, ap, ◌∙◌, arith}
use Rattle.std.proofs.lemmas.List.{drop_all}
use Rattle.scoop_model.specs.World.{is_site}
use Rattle.scoop_keeper.proofs.Keyed.{first_here, none_here}
use Rattle.scoop_world.proofs.parts.site_at.Goals as goal

pub returns-then-eq : goal.returns-then-eq
returns-then-eq g c =
    let x = c.index-sites-i.result in
    let here : is_site c.args.handler (get_or c.args.sites.now c.loop-i.i x) ≡ true =
    rw (← c.index-sites-i.is, ← c.number.ensures.value) (sym c.eq.ensures ∙ c.if-eq.true) in
    first_here (is_site c.args.handler) c.args.sites.now c.loop-i.i x (omega arith) c.loop-i.invariant here

pub loop-i-preserved : goal.loop-i-preserved
loop-i-preserved g c =
    let x = c.index-sites-i.result in
    let off : is_site c.args.handler (get_or c.args.sites.now c.loop-i.i x) ≡ false =
    rw (← c.index-sites-i.is, ← c.number.ensures.value) (sym c.eq.ensures ∙ c.if-eq.false) in
    none_here (is_site c.args.handler) c.args.sites.now c.loop-i.i x (omega arith) c.loop-i.invariant off

pub returns : goal.returns
returns g c = sym c.loop-i.invariant ∙ ap (find (is_site c.args.handler)) (drop_all c.loop-i.i c.args.sites.now (omega arith))
