use Rattle.std.proofs.Common.{◌≡◌, true, false, find, get_or, sym, ap, ◌∙◌, arith}
use Rattle.std.proofs.lemmas.List.{drop_all}
use Rattle.scoop_book.specs.Moves.{is_handler}
use Rattle.scoop_keeper.proofs.Keyed.{first_here, none_here}
use Rattle.scoop_replay.proofs.local.place_of.Goals as goal

pub returns-then-eq : goal.returns-then-eq
returns-then-eq c =
    let x = c.index-locals-i.result in
    let here : is_handler c.args.handler (get_or c.args.locals.now c.loop-i.i x) ≡ true =
    rw (← c.index-locals-i.is, ← c.number.ensures) (sym c.eq.ensures ∙ c.if-eq.true) in
    first_here (is_handler c.args.handler) c.args.locals.now c.loop-i.i x (omega arith) c.loop-i.invariant here

pub loop-i-preserved : goal.loop-i-preserved
loop-i-preserved c =
    let x = c.index-locals-i.result in
    let off : is_handler c.args.handler (get_or c.args.locals.now c.loop-i.i x) ≡ false =
    rw (← c.index-locals-i.is, ← c.number.ensures) (sym c.eq.ensures ∙ c.if-eq.false) in
    none_here (is_handler c.args.handler) c.args.locals.now c.loop-i.i x (omega arith) c.loop-i.invariant off

pub returns : goal.returns
returns c = sym c.loop-i.invariant ∙ ap (find (is_handler c.args.handler)) (drop_all c.loop-i.i c.args.locals.now (omega arith))
