use Rattle.scoop_runtime.proofs.NodeLives.{if_both, ran_first}
use Rattle.scoop_runtime.proofs.pending.run_opened.Goals as goal

pub returns-in-Ok-clause-ran : goal.returns-in-Ok-clause-ran
returns-in-Ok-clause-ran g c =
    if_both _ _ _ c.run_book.result
    (λ r runs honest. ran_first g.O.Object.Behaviour.words g.K.Keeper.handlers g.K.Keeper.is_honest c.args.plan.now.members.items c.in_ok-handed.field-0.items c.args.keeper
    c.in-Ok.book.keeper r.0.keeper c.in-Ok.book.opening r.0.stood c.in_ok-handed.ensures.members c.in-Ok.ensures.may.apart c.in-Ok.ensures.opens
    c.in-Ok.ensures.honest honest runs)
    c.run_book.ensures.ran c.run_book.ensures.honest
