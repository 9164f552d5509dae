use Rattle.std.proofs.Common.{◌≡◌, ◌++◌, [], ◌∷◌, List, map, take, get_or, sym, ap, ◌∙◌, arith, ◌+◌}
use Rattle.std.proofs.lemmas.List.{take_all, take_more, map-append}
use Rattle.scoop_world.specs.Standing.{Standing, standing}
use Rattle.scoop_world.proofs.parts.states_of.Goals as goal

pub loop-site-preserved : goal.loop-site-preserved
loop-site-preserved g c =
    let i = c.loop-site.site-index in
    let x = c.site-item.result in
    let xs = c.args.sites.now in
    let longer : map standing (take (i + 1) xs) ≡ map standing (take i xs) ++ standing (get_or xs i x) ∷ [] =
    ap (map standing) (take_more xs i x c.loop-site-test.true) ∙ map-append standing (take i xs) (get_or xs i x ∷ []) in
    let now : Standing = c.of.result in
    let read : record { state = c.in_ok-state.state; is_out = c.is_out.result } ≡ standing x =
    λ j. record { state = c.in_ok-state.ensures j; is_out = c.is_out.ensures j } in
    let same : now ≡ standing x = c.of.ensures ∙ read in
    c.in_ok-push.ensures.items
    ∙ ap (λ (ys : List Standing). ys ++ now ∷ []) c.loop-site.invariant
    ∙ ap (λ (y : Standing). map standing (take i xs) ++ y ∷ []) (same ∙ ap standing c.site-item.is)
    ∙ sym longer

pub returns : goal.returns
returns g c = c.loop-site.invariant ∙ ap (map standing) (take_all c.loop-site.site-index c.args.sites.now c.loop-site-test.false)
