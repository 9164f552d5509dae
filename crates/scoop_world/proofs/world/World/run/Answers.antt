use Rattle.std.proofs.Common.{◌≡◌, ◌+◌, List, [], ◌∷◌, ◌++◌, Option, take, sym, ap, ◌∙◌, subst, refl, arith}
use Rattle.std.specs.Prelude.{IfSome}
use Rattle.std.proofs.lemmas.List.{take_all, take_more}
use Rattle.scoop_model.specs.declared.event.Event.{Event}
use Rattle.scoop_model.specs.World.{World}
use Rattle.scoop_model.specs.Step.{step}
use Rattle.scoop_model.specs.Reach.{Leads}
use Rattle.scoop_world.specs.Answers.{IsRefused}
use Rattle.scoop_rules.specs.Paper.{LeadsByRules}
use Rattle.scoop_keeper.proofs.Keyed.{item_at}
use Rattle.scoop_model.proofs.Reaching.{leads_next}
use Rattle.scoop_model.proofs.Headline.{reached_safe}
use Rattle.scoop_rules.proofs.Follows.Runs.{reached_runs}
use Rattle.scoop_world.proofs.world.World.run.Goals as goal

pub returns-in-Err-clause-runs : goal.returns-in-Err-clause-runs
returns-in-Err-clause-runs g c =
    let v = c.args.self.now in
    let es = c.args.events.now in
    let i = c.loop-taken.taken in
    let e = c.index-events-taken.result in
    let x = c.step.new.self in
    record {
      within = omega arith;
      leads = subst (λ (u : World). Leads v (take i es) u) (sym c.in-Err.ensures.takes.1) c.loop-taken.invariant.0;
      refused = subst (λ (o : Option Event). IfSome o (λ y. IsRefused (step x y) c.in-Err.error)) (sym (item_at es i e (omega arith) c.index-events-taken.is))
          (subst (λ (u : World). IsRefused (step u e) c.in-Err.error) (sym c.in-Err.ensures.takes.1) c.in-Err.ensures.takes.0);
    }

pub returns-in-Err-clause-safe : goal.returns-in-Err-clause-safe
returns-in-Err-clause-safe g c = reached_safe c.step.new.self c.step.ensures.reached

pub returns-in-Err-clause-follows : goal.returns-in-Err-clause-follows
returns-in-Err-clause-follows g c =
    let v = c.args.self.now in
    let before = take c.loop-taken.taken c.args.events.now in
    subst (LeadsByRules v before) (sym c.in-Err.ensures.takes.1) (reached_runs v c.loop-taken.self before c.is_reached.ensures c.loop-taken.invariant.0)

pub loop-taken-preserved : goal.loop-taken-preserved
loop-taken-preserved g c =
    let v = c.args.self.now in
    let es = c.args.events.now in
    let i = c.loop-taken.taken in
    let e = c.index-events-taken.result in
    let longer : take (i + 1) es ≡ take i es ++ e ∷ [] =
    take_more es i e (omega arith) ∙ ap (λ (y : Event). take i es ++ y ∷ []) (sym c.index-events-taken.is) in (
      subst (λ (xs : List Event). Leads v xs c.step.new.self) (sym longer)
          (leads_next v c.loop-taken.self (take i es) e (c.step.new.self, c.in-Ok.field-0) c.loop-taken.invariant.0 c.in-Ok.ensures.takes),
      c.step.ensures.reached,
    )

pub returns-clause-runs : goal.returns-clause-runs
returns-clause-runs g c = (
  refl,
  subst (λ (xs : List Event). Leads c.args.self.now xs c.loop-taken.self)
      (take_all c.loop-taken.taken c.args.events.now (omega arith)) c.loop-taken.invariant.0,
)

pub returns-clause-safe : goal.returns-clause-safe
returns-clause-safe g c = reached_safe c.loop-taken.self c.loop-taken.invariant.1

pub returns-clause-follows : goal.returns-clause-follows
returns-clause-follows g c =
    reached_runs c.args.self.now c.loop-taken.self c.args.events.now c.is_reached.ensures
    (subst (λ (xs : List Event). Leads c.args.self.now xs c.loop-taken.self)
    (take_all c.loop-taken.taken c.args.events.now (omega arith)) c.loop-taken.invariant.0)
