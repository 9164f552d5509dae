use Rattle.std.proofs.Common.{Some, sym, ap, ◌∙◌, arith}
use Rattle.std.specs.Option.{option_map}
use Rattle.scoop_handler.specs.State.{HandlerState}
use Rattle.scoop_keeper.proofs.Keyed.{item_at}
use Rattle.scoop_calm.specs.declared.next.Next.TheVariants as next
use Rattle.scoop_world.specs.Standing.{Standing}
use Rattle.scoop_calm.proofs.Firsts.{found_here, not_here}
use Rattle.scoop_calm.proofs.choosing.first_out.Goals as goal

pub returns-then-is_out : goal.returns-then-is_out
returns-then-is_out g c =
    let x = c.standing-item.result in
    let i = c.loop-standing.standing-index in
    let at = item_at c.args.states.now i x (omega arith) c.standing-item.is in
    let found = found_here (λ (s : Standing). s.is_out) c.args.states.now i x at c.loop-standing.invariant (sym c.is_out.ensures ∙ c.if-is_out.true) in
    ap (λ h. Some (next.Finish h)) (c.handler.ensures.value ∙ ap (λ (s : HandlerState). s.number) c.state.ensures)
    ∙ sym (ap (option_map (λ (s : Standing). next.Finish s.state.number)) found)

pub loop-standing-preserved : goal.loop-standing-preserved
loop-standing-preserved g c =
    let x = c.standing-item.result in
    let i = c.loop-standing.standing-index in
    let at = item_at c.args.states.now i x (omega arith) c.standing-item.is in
    not_here (λ (s : Standing). s.is_out) c.args.states.now i x at c.loop-standing.invariant (sym c.is_out.ensures ∙ c.if-is_out.false)
