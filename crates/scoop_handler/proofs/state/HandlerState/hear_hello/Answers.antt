use Rattle.std.proofs.Common.{◌<◌, ◌≡◌, Some, length, sym, ap, subst, ◌∙◌, arith}
use Rattle.scoop_message.specs.declared.limits.TheConstants.{MAX_MARKS}
use Rattle.scoop_handler.specs.State.{HandlerState, IsState}
use Rattle.scoop_handler.specs.Marks.{IsNowhere, mark_of}
use Rattle.scoop_handler.proofs.States.{IsState-first, IsState-newer}
use Rattle.scoop_handler.proofs.state.HandlerState.hear_hello.Goals as goal

pub add-requires : goal.add-requires
add-requires g c =
    let is : IsState c.args.self.now = subst IsState c.self.view_is c.self.invariant in
    let marks = ap (λ (s : HandlerState). s.marks) (sym c.self.view_is) ∙ sym c.deref.ensures.value in
    let was : IsNowhere c.args.client c.deref.result.now = c.in_default.ensures {u = tt} in
    let none = ap (mark_of c.args.client) marks ∙ was.found in
    let same_length = ap (λ (s : HandlerState). length s.marks) c.self.view_is in
    let room : length c.args.self.now.marks < MAX_MARKS = omega (arith, is.room) in
    rw c.greeting.ensures (IsState-first c.args.self.now c.args.client c.args.inc is none room)

pub renew-requires-clause-state : goal.renew-requires-clause-state
renew-requires-clause-state g c =
    let is : IsState c.args.self.now = subst IsState c.self.view_is c.self.invariant in
    let marks = ap (λ (s : HandlerState). s.marks) (sym c.self.view_is) ∙ sym c.deref.ensures.value in
    let was : mark_of c.args.client c.deref.result.now ≡ Some c.in-Some.mark = (c.in-Some.ensures {u = tt}).1 in
    let found = ap (mark_of c.args.client) marks ∙ was in
    IsState-newer c.args.self.now c.args.client c.args.inc c.in-Some.mark is found c.if-mark-inc.true
