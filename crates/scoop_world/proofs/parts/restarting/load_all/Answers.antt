use Rattle.scoop_world.proofs.KeptPlaces.{all_by_place}
use Rattle.scoop_world.specs.Kept.{HasState, stored_on}
use Rattle.scoop_keeper.specs.Memory.{MemoryRecord}
use Rattle.scoop_handler.specs.State.{HandlerState}
use Rattle.std.proofs.lemmas.List.{take_all, take_more, map-append}
use Rattle.std.proofs.Common.{◌≡◌, ◌++◌, [], ◌∷◌, List, Option, map, take, get_or, sym, ap, ◌∙◌, subst, arith, ◌+◌}
use Rattle.scoop_world.proofs.parts.restarting.load_all.Goals as goal

pub load-requires : goal.load-requires
load-requires g c =
    let x = c.site-item.result in
    let own : HasState c.args.keeper.now x =
    subst (HasState c.args.keeper.now) (sym c.site-item.is) (all_by_place (HasState c.args.keeper.now) c.args.sites.now c.requires c.loop-site.site-index x
    (omega arith)) in
    subst (λ (m : MemoryRecord). HasState m x) (sym c.loop-site.invariant.same) own

pub loop-site-preserved : goal.loop-site-preserved
loop-site-preserved g c =
    let i = c.loop-site.site-index in
    let x = c.site-item.result in
    let xs = c.args.sites.now in
    let f = stored_on c.args.node in
    let longer : map f (take (i + 1) xs) ≡ map f (take i xs) ++ f (get_or xs i x) ∷ [] =
    ap (map f) (take_more xs i x c.loop-site-test.true) ∙ map-append f (take i xs) (get_or xs i x ∷ []) in
    record {
      found = c.in_ok-push.ensures.items
          ∙ ap (λ (ys : List (Option HandlerState)). ys ++ c.in_ok-state.state ∷ []) c.loop-site.invariant.found
          ∙ ap (λ (y : Option HandlerState). map f (take i xs) ++ y ∷ []) (c.in_ok-state.ensures.found ∙ ap f c.site-item.is)
          ∙ sym longer;
      same = c.load.ensures.keeper ∙ c.loop-site.invariant.same;
    }

pub returns-clause-found : goal.returns-clause-found
returns-clause-found g c =
    c.loop-site.invariant.found ∙ ap (map (stored_on c.args.node)) (take_all c.loop-site.site-index c.args.sites.now c.loop-site-test.false)
