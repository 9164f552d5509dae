use Rattle.std.proofs.Common.{◌≡◌, true, false, find, get_or, sym, ap, ◌∙◌, arith}
use Rattle.std.proofs.lemmas.List.{drop_all}
use Rattle.scoop_record.specs.Gathering.{is_of}
use Rattle.scoop_keeper.proofs.Keyed.{first_here, none_here}
use Rattle.scoop_record.proofs.gathering.place_of.Goals as goal

pub returns-then-eq : goal.returns-then-eq
returns-then-eq c =
    let x = c.index-states-i.result in
    let here : is_of c.args.handler (get_or c.args.states.now c.loop-i.i x) ≡ true =
    rw (← c.index-states-i.is, ← c.handler.ensures.value) (sym c.eq.ensures ∙ c.if-eq.true) in
    first_here (is_of c.args.handler) c.args.states.now c.loop-i.i x (omega arith) c.loop-i.invariant here

pub loop-i-preserved : goal.loop-i-preserved
loop-i-preserved c =
    let x = c.index-states-i.result in
    let off : is_of c.args.handler (get_or c.args.states.now c.loop-i.i x) ≡ false =
    rw (← c.index-states-i.is, ← c.handler.ensures.value) (sym c.eq.ensures ∙ c.if-eq.false) in
    none_here (is_of c.args.handler) c.args.states.now c.loop-i.i x (omega arith) c.loop-i.invariant off

pub returns : goal.returns
returns c = sym c.loop-i.invariant ∙ ap (find (is_of c.args.handler)) (drop_all c.loop-i.i c.args.states.now (omega arith))
