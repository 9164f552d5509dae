use Rattle.std.proofs.Common.{ap}
use Rattle.scoop_driver.specs.declared.step.Step.TheVariants.{Broke, Gave, Turned}
use Rattle.scoop_audit.specs.Client.{received_as, step_of}
use Rattle.scoop_audit.proofs.client.take.Goals as goal

pub returns-in-Err-clause-wrong : goal.returns-in-Err-clause-wrong
returns-in-Err-clause-wrong c =
    c.unmade.ensures c.args.replay.now.client c.args.line.now (Gave c.in-Do.command) (ap step_of c.in-Do.is) c.in-Err.ensures.refused

pub returns-in-Err-turn-clause-wrong : goal.returns-in-Err-turn-clause-wrong
returns-in-Err-turn-clause-wrong c =
    c.unmade-in-Err-turn.ensures c.args.replay.now.client c.args.line.now (Turned (received_as c.in-Turn.arrival)) (ap step_of c.in-Turn.is)
    c.in-Err-turn.ensures.refused

pub returns-in-Err-break_off-clause-wrong : goal.returns-in-Err-break_off-clause-wrong
returns-in-Err-break_off-clause-wrong c =
    c.unmade-in-Err-break_off.ensures c.args.replay.now.client c.args.line.now (Broke c.in-Broke.place) (ap step_of c.in-Broke.is)
    c.in-Err-break_off.ensures.refused
