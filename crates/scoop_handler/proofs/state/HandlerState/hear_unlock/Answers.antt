use Rattle.std.proofs.Common.{◌≡◌, false, sym, ap, subst, ◌∙◌}
use Rattle.scoop_message.specs.declared.name.ClientId.{ClientId}
use Rattle.scoop_handler.specs.Marks.{IsPlaceOf}
use Rattle.scoop_handler.proofs.MarkLists.{mark_of-client}
use Rattle.scoop_handler.specs.State.{HandlerState, is_unfinished}
use Rattle.scoop_handler.proofs.States.{IsState-skipped, IsState-freed}
use Rattle.scoop_handler.proofs.state.HandlerState.hear_unlock.Goals as goal

pub change-requires-clause-state : goal.change-requires-clause-state
change-requires-clause-state g c =
    let is = c.is_unfinished.ensures.state in
    let same_holder = ap (λ (s : HandlerState). s.holder) c.change.view_is in
    let clear : is_unfinished c.args.self.now c.args.mark ≡ false = sym c.is_unfinished.ensures.value ∙ c.if-is_unfinished.false in
    rw (same_holder, c.fresh.ensures) (IsState-skipped c.args.self.now c.args.block c.args.mark is c.requires.heard c.if-mark-block.true clear)

pub change-requires-then-holds-clause-state : goal.change-requires-then-holds-clause-state
change-requires-then-holds-clause-state g c =
    let is = c.holds.ensures.state in
    rw c.without_hold.ensures (IsState-freed c.args.self.now c.args.block c.args.mark is c.requires.heard (sym c.holds.ensures.value ∙ c.if-holds.true))

pub change-requires-then-holds-clause-place : goal.change-requires-then-holds-clause-place
change-requires-then-holds-clause-place g c =
    rw c.without_hold.ensures (subst (λ (x : ClientId). IsPlaceOf x c.args.self.now.marks c.args.place)
    (sym (mark_of-client c.args.block.client c.args.self.now.marks c.args.mark c.requires.heard.found)) c.requires.place)
