use Rattle.std.proofs.Common.{subst}
use Rattle.scoop_driver.specs.declared.step.Step.TheVariants.{Gave}
use Rattle.scoop_driver.specs.Steps.{Can}
use Rattle.scoop_replay.specs.Client.{ClientValue}
use Rattle.scoop_replay.proofs.Clients.{can_give}
use Rattle.scoop_replay.proofs.client.ClientReplay.give.Goals as goal

pub step-requires : goal.step-requires
step-requires c =
    subst (λ (v : ClientValue). Can v.client (Gave c.args.command.now)) c.self.view_is
    (can_give c.self.inside.client c.args.command.now c.in-Ok.ensures)

pub returns-in-Ok-step-clause-can : goal.returns-in-Ok-step-clause-can
returns-in-Ok-step-clause-can c =
    subst (λ (v : ClientValue). Can v.client (Gave c.args.command.now)) c.self.view_is
    (can_give c.self.inside.client c.args.command.now c.in-Ok.ensures)
