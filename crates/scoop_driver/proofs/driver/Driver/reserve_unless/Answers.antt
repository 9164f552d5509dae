use Rattle.std.proofs.Common.{◌≡◌, ap, subst, refl, Err}
use Rattle.scoop_client.specs.State.{ClientState}
use Rattle.scoop_client.specs.declared.command.Command.TheVariants.{Reserve}
use Rattle.scoop_client.specs.Commands.{command}
use Rattle.scoop_client.specs.declared.command.Command.TheVariants as given
use Rattle.scoop_driver.specs.declared.error.DriverError.TheVariants.{Client}
use Rattle.scoop_driver.specs.State.{DriverState}
use Rattle.scoop_driver.proofs.Refusals.{reserve_is_refused}
use Rattle.scoop_driver.proofs.Calling.{called_err, refused_now, reserve_reached, reserve_refused, reserve_runs}
use Rattle.scoop_driver.proofs.driver.Driver.reserve_unless.Goals as goal

pub returns-in-Err-clause-does : goal.returns-in-Err-clause-does
returns-in-Err-clause-does g c =
    let own : c.self.inside.client ≡ c.args.self.now.seen.client = ap (λ (d : DriverState _ _). d.seen.client) c.self.view_is in
    let is : command c.args.self.now.seen.client (Reserve c.args.handlers.now) ≡ Err c.in-Err.error =
    subst (λ (x : ClientState). command x (Reserve c.args.handlers.now) ≡ Err c.in-Err.error) own c.in-Err.ensures in
    called_err (Reserve c.args.handlers.now) c.args.self.now.turns (Client c.in-Err.error) c.args.self.now.seen c.args.self.now.seen
    (refused_now (Reserve c.args.handlers.now) c.args.self.now.turns c.in-Err.error c.args.self.now.seen c.args.self.now.seen
    (reserve_is_refused c.args.self.now.seen.client c.args.handlers.now c.in-Err.error is) refl)

pub returns-in-Ok-give-clause-does : goal.returns-in-Ok-give-clause-does
returns-in-Ok-give-clause-does g c =
    let turns : c.self.inside.turns ≡ c.args.self.now.turns = ap (λ (d : DriverState _ _). d.turns) c.self.view_is in
    reserve_reached (given.Reserve c.list_of.result) c.args.handlers.now c.self.inside.turns c.args.self.now.turns c.turns_until.result _ _ _
    (ap Reserve c.list_of.ensures) turns c.in-Ok-give.ensures.does c.turns_until.ensures.does

pub returns-in-Ok-give-clause-runs : goal.returns-in-Ok-give-clause-runs
returns-in-Ok-give-clause-runs g c =
    reserve_runs (given.Reserve c.list_of.result) c.args.handlers.now c.self.inside.turns c.turns_until.result _ _ _
    (ap Reserve c.list_of.ensures) c.in-Ok-give.ensures.does c.turns_until.ensures.does

pub returns-in-Err-give-clause-does : goal.returns-in-Err-give-clause-does
returns-in-Err-give-clause-does g c =
    reserve_refused (given.Reserve c.list_of.result) c.args.handlers.now c.args.self.now.turns c.in-Err-give.error _ _
    (ap Reserve c.list_of.ensures) c.in-Err-give.ensures.does
