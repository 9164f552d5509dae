use Rattle.std.proofs.Common.{◌≡◌, Option, Some, None, false, refl, sym, ap, subst, ◌∙◌}
use Rattle.std.specs.Prelude.{is_some}
use Rattle.scoop_handler.specs.State.{HandlerState, IsState}
use Rattle.scoop_handler.proofs.States.{IsState-granted}
use Rattle.scoop_handler.proofs.state.HandlerState.hear_lock.Goals as goal

none_from_is_some : {X : Type 0} (o : Option X) → is_some o ≡ false → o ≡ None
none_from_is_some None e = refl
none_from_is_some (Some x) e = cc

pub change-requires-clause-state : goal.change-requires-clause-state
change-requires-clause-state g c =
    let is : IsState c.args.self.now = subst IsState c.self.view_is c.self.invariant in
    let free = ap (λ (s : HandlerState). s.holder) (sym c.self.view_is) ∙ none_from_is_some c.self.inside.holder (c.if-is_none.ensures {u = tt}) in
    rw c.fresh.ensures (IsState-granted c.args.self.now c.args.block c.args.mark is c.requires.heard c.if-mark-block.true free
    (sym c.is_unfinished.ensures.value ∙ c.if-not-is_unfinished.true))
