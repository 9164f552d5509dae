use Rattle.std.proofs.Common.{◌++◌, refl, sym, ap, ◌∙◌, subst}
use Rattle.std.specs.List.{AllByRecursion}
use Rattle.scoop_book.specs.Opening.{AllOpen, IsOfClass}
use Rattle.scoop_book.proofs.OpeningLemmas.{none_opened, not_opened, opened_more, same_on, stays_on}
use Rattle.scoop_keeper.proofs.UsedUp.{all_next, taken_all, taken_front}
use Rattle.scoop_book.proofs.opening.open_all.Goals as goal

pub loop-handed-init : goal.loop-handed-init
loop-handed-init g c = record {
  opened = none_opened g.B.Behaviour.words g.K.Keeper.handlers g.K.Keeper.is_honest c.args.keeper.now c.new-locals.result.items c.new-openings.result.items
      c.new-locals.ensures.items c.new-openings.ensures.items;
  incarnations = λ h. record { each = λ client. refl };
}

pub open_one-requires : goal.open_one-requires
open_one-requires g c =
    let it = c.into_iter-handed-iterator in
    let done = c.loop-handed.yielded in
    let x = c.in-Some.handed in
    let left = c.next.new.self.rest.items in
    let all = sym it.ensures.into_iter_gives.0 ∙ taken_front it.result done c.loop-handed.handed-iterator c.loop-handed.yielded_by
    ∙ ap (λ ys. done ++ ys) c.in-Some.ensures.steps.0 in
    all_next (IsOfClass g.B.Behaviour.class) done x left (subst (AllByRecursion (IsOfClass g.B.Behaviour.class)) all c.requires)

pub returns-in-Err-clause-refused : goal.returns-in-Err-clause-refused
returns-in-Err-clause-refused g c =
    let it = c.into_iter-handed-iterator in
    let done = c.loop-handed.yielded in
    let x = c.in-Some.handed in
    let left = c.next.new.self.rest.items in
    let all = sym it.ensures.into_iter_gives.0 ∙ taken_front it.result done c.loop-handed.handed-iterator c.loop-handed.yielded_by
    ∙ ap (λ ys. done ++ ys) c.in-Some.ensures.steps.0 in
    not_opened g.B.Behaviour.words g.K.Keeper.handlers g.K.Keeper.is_honest c.args.keeper.now c.loop-handed.keeper c.open_one.new.keeper c.loop-handed.yielded
    c.loop-handed.locals.items c.loop-handed.openings.items c.loop-handed.invariant.opened x left c.args.handlers.items c.in-Err.error all
    c.in-Err.ensures.refused c.open_one.ensures.honest

pub loop-handed-preserved : goal.loop-handed-preserved
loop-handed-preserved g c = record {
  opened = opened_more g.B.Behaviour.words g.K.Keeper.handlers g.K.Keeper.is_honest c.args.keeper.now c.loop-handed.keeper c.open_one.new.keeper
      c.loop-handed.yielded c.loop-handed.locals.items c.loop-handed.openings.items c.loop-handed.invariant.opened c.in-Some.handed c.in-Ok.opened.0
      c.in-Ok.opened.1 c.push.new.self.items c.push-in-loop-handed.new.self.items c.in-Ok.ensures.opens c.in-Ok.ensures.kept c.open_one.ensures.honest
      c.open_one.ensures.handlers c.in_ok-push.ensures.items c.in_ok-push-2.ensures.items;
  incarnations = same_on g.K.Keeper.incarnations g.K.Keeper.is_honest c.args.keeper.now c.loop-handed.keeper c.open_one.new.keeper
      c.loop-handed.invariant.incarnations c.open_one.ensures.honest c.open_one.ensures.incarnations;
}

pub returns-clause-opens : goal.returns-clause-opens
returns-clause-opens g c =
    let it = c.into_iter-handed-iterator in
    let all = sym (taken_all it.result c.loop-handed.yielded c.loop-handed.handed-iterator c.loop-handed.yielded_by c.in-None.ensures.steps.0)
    ∙ it.ensures.into_iter_gives.0 in
    subst (λ ps. AllOpen g.B.Behaviour.words (g.K.Keeper.handlers c.args.keeper.now) (g.K.Keeper.is_honest c.loop-handed.keeper) ps c.loop-handed.locals.items)
    all c.loop-handed.invariant.opened.opens

pub returns-in-Err-clause-handlers : goal.returns-in-Err-clause-handlers
returns-in-Err-clause-handlers g c = stays_on g.B.Behaviour.words g.K.Keeper.handlers g.K.Keeper.is_honest c.args.keeper.now c.loop-handed.keeper
    c.open_one.new.keeper c.loop-handed.yielded c.loop-handed.locals.items c.loop-handed.openings.items c.loop-handed.invariant.opened c.open_one.ensures.honest
    c.open_one.ensures.handlers

pub returns-in-Err-clause-incarnations : goal.returns-in-Err-clause-incarnations
returns-in-Err-clause-incarnations g c = same_on g.K.Keeper.incarnations g.K.Keeper.is_honest c.args.keeper.now c.loop-handed.keeper c.open_one.new.keeper
    c.loop-handed.invariant.incarnations c.open_one.ensures.honest c.open_one.ensures.incarnations

pub returns-in_err-push-clause-handlers : goal.returns-in_err-push-clause-handlers
returns-in_err-push-clause-handlers g c = stays_on g.B.Behaviour.words g.K.Keeper.handlers g.K.Keeper.is_honest c.args.keeper.now c.loop-handed.keeper
    c.open_one.new.keeper c.loop-handed.yielded c.loop-handed.locals.items c.loop-handed.openings.items c.loop-handed.invariant.opened c.open_one.ensures.honest
    c.open_one.ensures.handlers

pub returns-in_err-push-clause-incarnations : goal.returns-in_err-push-clause-incarnations
returns-in_err-push-clause-incarnations g c = same_on g.K.Keeper.incarnations g.K.Keeper.is_honest c.args.keeper.now c.loop-handed.keeper c.open_one.new.keeper
    c.loop-handed.invariant.incarnations c.open_one.ensures.honest c.open_one.ensures.incarnations

pub returns-in_err-push-2-clause-handlers : goal.returns-in_err-push-2-clause-handlers
returns-in_err-push-2-clause-handlers g c = stays_on g.B.Behaviour.words g.K.Keeper.handlers g.K.Keeper.is_honest c.args.keeper.now c.loop-handed.keeper
    c.open_one.new.keeper c.loop-handed.yielded c.loop-handed.locals.items c.loop-handed.openings.items c.loop-handed.invariant.opened c.open_one.ensures.honest
    c.open_one.ensures.handlers

pub returns-in_err-push-2-clause-incarnations : goal.returns-in_err-push-2-clause-incarnations
returns-in_err-push-2-clause-incarnations g c = same_on g.K.Keeper.incarnations g.K.Keeper.is_honest c.args.keeper.now c.loop-handed.keeper
    c.open_one.new.keeper c.loop-handed.invariant.incarnations c.open_one.ensures.honest c.open_one.ensures.incarnations
