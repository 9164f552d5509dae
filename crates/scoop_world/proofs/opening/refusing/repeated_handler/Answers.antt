use Rattle.std.proofs.Common.{List, sym, ◌∙◌, subst, arith}
use Rattle.std.proofs.lemmas.List.{take_all}
use Rattle.scoop_message.specs.Message.{same_handler}
use Rattle.scoop_message.proofs.Same.{handler_decides}
use Rattle.scoop_world.specs.declared.placing.Placement.{Placement}
use Rattle.scoop_message.specs.Lists.{NoRepeats}
use Rattle.scoop_world.specs.OpenRefusal.{handlers_of}
use Rattle.scoop_keeper.proofs.Keyed.{first_repeat, item_at, once_longer}
use Rattle.scoop_world.proofs.opening.refusing.repeated_handler.Goals as goal

pub returns-then-is_placed-clause-some : goal.returns-then-is_placed-clause-some
returns-then-is_placed-clause-some g c =
    let ps = c.args.placements.now in
    let i = c.loop-i.i in
    let p = c.index-placements-i.result in
    first_repeat
    (λ (x : Placement g.row.B.Denot).
    x.handler) same_handler handler_decides ps i p (item_at ps i p (omega arith) c.index-placements-i.is) c.loop-i.invariant (sym c.is_placed.ensures
    ∙ c.if-is_placed.true)

pub loop-i-preserved : goal.loop-i-preserved
loop-i-preserved g c =
    let ps = c.args.placements.now in
    let i = c.loop-i.i in
    let p = c.index-placements-i.result in
    once_longer (λ (x : Placement g.row.B.Denot). x.handler) same_handler handler_decides ps i p
    (item_at ps i p (omega arith) c.index-placements-i.is) c.loop-i.invariant (sym c.is_placed.ensures ∙ c.if-is_placed.false)

pub returns-clause-none : goal.returns-clause-none
returns-clause-none g c =
    let ps = c.args.placements.now in
    subst (λ (xs : List (Placement g.row.B.Denot)). NoRepeats (handlers_of xs)) (take_all c.loop-i.i ps (omega arith)) c.loop-i.invariant
