use Rattle.std.proofs.Common.{List, IsTrue, true≢false, refl, sym, subst, ◌∙◌}
use Rattle.scoop_handler.specs.declared.mark.Mark.{Mark}
use Rattle.scoop_handler.specs.State.{state_of, IsState}
use Rattle.scoop_handler.proofs.state.HandlerState.of.Goals as goal

pub returns-then-not-is_state-clause-bad : goal.returns-then-not-is_state-clause-bad
returns-then-not-is_state-clause-bad g c = (
  (λ e is.
      let tested : IsTrue c.is_state.result = (c.is_state.ensures c.args.number).1 is in
      true≢false (sym tested ∙ c.if-not-is_state.true)),
  (λ none. refl),
)

pub returns-in_default-clause-bad : goal.returns-in_default-clause-bad
returns-in_default-clause-bad g c = (
  (λ e. cc),
  (λ none.
      let tested : IsTrue c.is_state.result = c.if-not-is_state.false in
      absurd (none ((c.is_state.ensures c.args.number).0 tested))),
)

pub invariant_of-result : goal.invariant_of-result
invariant_of-result g c =
    let tested : IsTrue c.is_state.result = c.if-not-is_state.false in
    subst (λ (marks : List Mark). IsState (state_of c.args.number c.args.holder marks c.args.queues c.args.words)) (sym (c.in-Ok.ensures.items))
    ((c.is_state.ensures c.args.number).0 tested)

pub returns-clause-fits : goal.returns-clause-fits
returns-clause-fits g c =
    let tested : IsTrue c.is_state.result = c.if-not-is_state.false in
    (c.is_state.ensures c.args.number).0 tested
