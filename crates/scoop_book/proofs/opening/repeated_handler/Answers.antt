use Rattle.std.proofs.Common.{List, sym, ◌∙◌, subst, arith}
use Rattle.std.proofs.lemmas.List.{take_all}
use Rattle.scoop_message.specs.Message.{same_handler}
use Rattle.scoop_message.proofs.Same.{handler_decides}
use Rattle.scoop_book.specs.Opening.{Handed}
use Rattle.scoop_message.specs.Lists.{NoRepeats}
use Rattle.scoop_keeper.proofs.Keyed.{first_repeat, item_at, once_longer}
use Rattle.scoop_book.specs.Opening.{numbers_of}
use Rattle.scoop_book.proofs.opening.repeated_handler.Goals as goal

pub returns-then-is_handed-clause-some : goal.returns-then-is_handed-clause-some
returns-then-is_handed-clause-some g c =
    let ps = c.args.handlers.now in
    let i = c.loop-i.i in
    let p = c.index-handlers-i.result in
    first_repeat (λ (x : Handed g.row.B.Denot). x.0) same_handler handler_decides ps i p (item_at ps i p (omega arith) c.index-handlers-i.is) c.loop-i.invariant
    (sym c.is_handed.ensures ∙ c.if-is_handed.true)

pub loop-i-preserved : goal.loop-i-preserved
loop-i-preserved g c =
    let ps = c.args.handlers.now in
    let i = c.loop-i.i in
    let p = c.index-handlers-i.result in
    once_longer (λ (x : Handed g.row.B.Denot). x.0) same_handler handler_decides ps i p (item_at ps i p (omega arith) c.index-handlers-i.is) c.loop-i.invariant
    (sym c.is_handed.ensures ∙ c.if-is_handed.false)

pub returns-clause-none : goal.returns-clause-none
returns-clause-none g c =
    let ps = c.args.handlers.now in
    subst (λ (xs : List (Handed g.row.B.Denot)). NoRepeats (numbers_of xs)) (take_all c.loop-i.i ps (omega arith)) c.loop-i.invariant
