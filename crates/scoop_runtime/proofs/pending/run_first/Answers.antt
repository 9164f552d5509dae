use Rattle.scoop_runtime.proofs.NodeLives.{if_both, ran_prepared}
use Rattle.scoop_runtime.proofs.pending.run_first.Goals as goal

pub returns-clause-ran : goal.returns-clause-ran
returns-clause-ran g c =
    let ready = c.in_ok-resting.resting in
    if_both _ _ _ c.run_left.result
    (λ r goes honest. ran_prepared g.K.Keeper.handlers g.K.Keeper.is_honest c.args.plan.now.members.items c.args.keeper c.prepare.new.keeper ready.keeper r.keeper
    ready.stood r.stood c.in_ok-prepare.ensures.gained c.prepare.ensures.honest c.in_ok-resting.ensures.ran goes honest)
    c.run_left.ensures.goes_on c.run_left.ensures.honest
