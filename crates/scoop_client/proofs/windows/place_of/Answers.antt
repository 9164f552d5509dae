use Rattle.std.proofs.Common.{◌≡◌, true, get_or, sym, ◌∙◌, arith}
use Rattle.scoop_message.specs.Message.{same_handler}
use Rattle.scoop_client.proofs.Places.{is_place, is_nowhere}
use Rattle.scoop_client.proofs.windows.place_of.Goals as goal

pub returns-then-eq : goal.returns-then-eq
returns-then-eq g c =
    let x = c.index-windows-i.result in
    let here : same_handler (get_or c.args.windows.now c.loop-i.i x).handler c.args.handler ≡ true =
    rw (← c.index-windows-i.is, ← c.handler.ensures) (sym c.eq.ensures ∙ c.if-eq.true) in
    is_place c.args.handler c.args.windows.now c.loop-i.i x (omega arith) c.loop-i.invariant here

pub returns : goal.returns
returns g c = is_nowhere c.args.handler c.args.windows.now c.loop-i.i (omega arith) c.loop-i.invariant
