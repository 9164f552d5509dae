use Rattle.scoop_runtime.proofs.NodeLives.{goes_again, if_ok}
use Rattle.scoop_runtime.proofs.pending.run_again.Goals as goal

pub returns-in-Ok-clause-goes_on : goal.returns-in-Ok-clause-goes_on
returns-in-Ok-clause-goes_on g c =
    if_ok _ _ c.run_book.result
    (λ r runs. goes_again g.K.Keeper.handlers g.K.Keeper.is_honest c.args.resting.stood c.in-Ok.book.opening r.0.stood c.args.resting.keeper r.0.keeper
    c.in-Ok.ensures.again runs)
    c.run_book.ensures.ran
