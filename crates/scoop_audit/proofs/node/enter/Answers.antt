use Rattle.std.proofs.Common.{sym, subst}
use Rattle.scoop_book.specs.declared.event.Event.TheVariants as event
use Rattle.scoop_audit.specs.Wrong.{IfWrong, IsWrongAt}
use Rattle.scoop_audit.proofs.node.enter.Goals as goal

pub returns-in-Err-clause-wrong : goal.returns-in-Err-clause-wrong
returns-in-Err-clause-wrong c =
    let hs = c.args.node.now.handlers in
    subst (λ l. IfWrong (IsWrongAt hs l) c.unmade.result) (sym c.in-Hear.is) (c.unmade.ensures hs (event.Hear c.in-Hear.message) c.in-Err.ensures.refused)

pub returns-in-Err-begin-clause-wrong : goal.returns-in-Err-begin-clause-wrong
returns-in-Err-begin-clause-wrong c =
    let hs = c.args.node.now.handlers in
    subst (λ l. IfWrong (IsWrongAt hs l) c.unmade-in-Err-begin.result) (sym c.in-Begin.is)
    (c.unmade-in-Err-begin.ensures hs (event.Begin c.in-Begin.handler) c.in-Err-begin.ensures.refused)

pub returns-in-Err-finish-clause-wrong : goal.returns-in-Err-finish-clause-wrong
returns-in-Err-finish-clause-wrong c =
    let hs = c.args.node.now.handlers in
    subst (λ l. IfWrong (IsWrongAt hs l) c.unmade-in-Err-finish.result) (sym c.in-Finish.is)
    (c.unmade-in-Err-finish.ensures hs (event.Finish c.in-Finish.handler) c.in-Err-finish.ensures.refused)
