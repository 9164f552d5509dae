use Rattle.std.proofs.Common.{◌≡◌, false, List, map, take, sym, ◌∙◌, subst, arith}
use Rattle.std.specs.List.{list_any}
use Rattle.std.proofs.lemmas.List.{take_all}
use Rattle.scoop_message.specs.Lists.{NoRepeats}
use Rattle.scoop_message.specs.Message.{same_handler}
use Rattle.scoop_message.proofs.Same.{handler_decides}
use Rattle.scoop_handler.specs.Local.{LocalHandler, number_in}
use Rattle.scoop_keeper.proofs.Keyed.{item_at, once_longer}
use Rattle.scoop_replay.proofs.node.is_repeated.Goals as goal

pub loop-i-preserved : goal.loop-i-preserved
loop-i-preserved c =
    let ls = c.args.locals.now in
    let i = c.loop-i.i in
    let x = c.index-locals-i.result in
    once_longer number_in same_handler handler_decides ls i x (item_at ls i x (omega arith) c.index-locals-i.is) c.loop-i.invariant
    (subst (λ h. list_any (λ (y : LocalHandler). same_handler (number_in y) h) (take i ls) ≡ false) c.number.ensures
    (sym c.is_placed.ensures ∙ c.if-is_placed.false))

pub returns : goal.returns
returns c =
    subst (λ (xs : List LocalHandler). NoRepeats (map number_in xs)) (take_all c.loop-i.i c.args.locals.now (omega arith)) c.loop-i.invariant
