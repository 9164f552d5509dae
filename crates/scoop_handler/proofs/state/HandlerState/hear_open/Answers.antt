use Rattle.std.proofs.Common.{◌≡◌, ◌<◌, length, sym, ap, subst, arith}
use Rattle.scoop_message.specs.declared.limits.TheConstants.{MAX_QUEUES}
use Rattle.scoop_message.specs.declared.name.ClientId.{ClientId}
use Rattle.scoop_handler.specs.Marks.{IsPlaceOf}
use Rattle.scoop_handler.proofs.MarkLists.{mark_of-client}
use Rattle.scoop_handler.specs.State.{HandlerState, IsState}
use Rattle.scoop_handler.proofs.States.{IsState-opened}
use Rattle.scoop_handler.proofs.state.HandlerState.hear_open.Goals as goal

pub open-requires-clause-state : goal.open-requires-clause-state
open-requires-clause-state g c =
    let is : IsState c.args.self.now = subst IsState c.self.view_is c.self.invariant in
    let same_num : c.args.mark.num ≡ c.args.block.num = omega (arith, c.requires.heard.num, c.if-mark-block.false) in
    let same_length = ap (λ (s : HandlerState). length s.queues) c.self.view_is in
    let counted = c.list_len.ensures.value in
    let apart = c.if-list_len-eq-MAX_QUEUES.false in
    let room : length c.args.self.now.queues < MAX_QUEUES = omega (arith, is.queues.limit) in
    IsState-opened c.args.self.now c.args.block c.args.mark is c.requires.heard same_num c.in-Held.is room

pub open-requires-clause-place : goal.open-requires-clause-place
open-requires-clause-place g c =
    subst (λ (x : ClientId). IsPlaceOf x c.args.self.now.marks c.args.place)
    (sym (mark_of-client c.args.block.client c.args.self.now.marks c.args.mark c.requires.heard.found)) c.requires.place
