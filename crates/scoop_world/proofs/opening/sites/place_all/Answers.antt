use Rattle.std.proofs.Common.{◌≡◌, ◌++◌, map, sym, ap, ◌∙◌, subst}
use Rattle.std.specs.List.{AllByRecursion}
use Rattle.scoop_world.specs.declared.placing.Placement.{Placement}
use Rattle.scoop_model.specs.Step.{new_site}
use Rattle.scoop_model.specs.Opening.{IsPlaced}
use Rattle.scoop_world.specs.Placing.{placements_of}
use Rattle.scoop_keeper.proofs.UsedUp.{all_next, taken_all, taken_front}
use Rattle.scoop_world.proofs.opening.sites.place_all.Goals as goal

pub place-site-requires : goal.place-site-requires
place-site-requires g c =
    let it = c.into_iter-placement-iterator in
    let done = c.loop-placement.yielded in
    let now = c.loop-placement.placement-iterator in
    let x = c.in-Some.placement in
    let left = c.next.new.self.rest.items in
    let P : Placement g.row.B.Denot → Type 0 = λ p. g.B.Behaviour.class p.object ≡ p.class in
    let all = sym it.ensures.into_iter_gives.0 ∙ taken_front it.result done now c.loop-placement.yielded_by ∙ ap (λ ys. done ++ ys) c.in-Some.ensures.steps.0 in
    all_next P done x left (subst (AllByRecursion P) all c.requires)

pub returns-clause-sites : goal.returns-clause-sites
returns-clause-sites g c =
    let it = c.into_iter-placement-iterator in
    let all =
    sym (taken_all it.result c.loop-placement.yielded c.loop-placement.placement-iterator c.loop-placement.yielded_by c.in-None.ensures.steps.0)
    ∙ it.ensures.into_iter_gives.0 in
    c.loop-placement.invariant.sites ∙ ap (λ ps. map new_site (placements_of g.B.Behaviour.words ps)) all

pub returns-clause-placed : goal.returns-clause-placed
returns-clause-placed g c =
    let it = c.into_iter-placement-iterator in
    let all =
    sym (taken_all it.result c.loop-placement.yielded c.loop-placement.placement-iterator c.loop-placement.yielded_by c.in-None.ensures.steps.0)
    ∙ it.ensures.into_iter_gives.0 in
    subst (λ ps. AllByRecursion IsPlaced (placements_of g.B.Behaviour.words ps)) all c.loop-placement.invariant.placed
