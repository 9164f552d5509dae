use Rattle.std.proofs.Common.{◌≡◌, ◌<◌, ◌≤◌, ◌+◌, ◌-◌, List, length, false, sym, ap, subst, ◌∙◌, arith}
use Rattle.scoop_message.specs.declared.request.Entry.{Entry}
use Rattle.scoop_message.specs.Entries.{last_number}
use Rattle.scoop_message.specs.declared.name.ClientId.{ClientId}
use Rattle.scoop_handler.specs.Marks.{IsPlaceOf}
use Rattle.scoop_handler.proofs.MarkLists.{mark_of-client}
use Rattle.scoop_handler.specs.Hearing.{is_closed, has_no_room, new_entries}
use Rattle.scoop_handler.specs.Rows.{IsLogAt, IsNext}
use Rattle.scoop_handler.proofs.States.{MayTake, may_take, open_stage}
use Rattle.scoop_handler.proofs.state.HandlerState.hear_log.Goals as goal

may : (g : _) (c : goal.After-with_received g) → MayTake c.args.self.now c.args.block c.args.number c.args.entries.now c.args.mark
may g c =
    let s = c.args.self.now in
    let b = c.args.block in
    let n = c.args.number in
    let es = c.args.entries.now in
    let k = c.args.mark in
    let last : c.from.result + length es - 1 ≡ last_number n es = ap (λ i. i + length es - 1) c.from.ensures in
    let same_num : k.num ≡ b.num = omega (arith, c.if-mark-block.false, c.requires.heard.num) in
    let at : IsLogAt s b k = record { heard = c.requires.heard; num = same_num; stage = open_stage k.stage (sym c.ne.ensures ∙ c.if-ne.false) } in
    let more : k.received < last_number n es = omega (arith, c.if-last-from.false, last, c.from-2.ensures) in
    let no_gap : n ≤ k.received + 1 = omega (arith, c.if-from.false, c.from-3.ensures, c.from-4.ensures) in
    let next : IsNext k n es = record { new = more; no_gap = no_gap } in
    let closed : is_closed k (last_number n es) es ≡ false = ap (λ i. is_closed k i es) (sym last) ∙ (sym c.is_closed.ensures ∙ c.if-is_closed.false) in
    let room : has_no_room s b (length (new_entries n es k)) ≡ false = ap (λ (l : List Entry). has_no_room s b (length l)) (sym c.unreceived-new.ensures.new)
    ∙ (sym c.has_no_room.ensures.value ∙ c.if-has_no_room.false) in
    may_take s b n es k c.has_no_room.ensures.state at next c.requires.some c.requires.end closed room

pub put-requires-clause-end : goal.put-requires-clause-end
put-requires-clause-end g c = rw c.unreceived-new.ensures.new (may g c).end

pub put-requires-clause-numbers : goal.put-requires-clause-numbers
put-requires-clause-numbers g c = rw c.unreceived-new.ensures.new (may g c).numbers

pub put-requires-clause-state : goal.put-requires-clause-state
put-requires-clause-state g c = rw (c.unreceived-new.ensures.new, c.with_received.ensures, c.ends.ensures, c.from.ensures) (may g c).state

pub put-requires-clause-fits : goal.put-requires-clause-fits
put-requires-clause-fits g c = rw c.unreceived-new.ensures.new (may g c).fits

pub put-requires-clause-place : goal.put-requires-clause-place
put-requires-clause-place g c =
    rw c.with_received.ensures (subst (λ (x : ClientId). IsPlaceOf x c.args.self.now.marks c.args.place)
    (sym (mark_of-client c.args.block.client c.args.self.now.marks c.args.mark c.requires.heard.found)) c.requires.place)
