use Rattle.scoop_client.specs.declared.command.Command.TheVariants.{End as DoEnd}
use Rattle.scoop_driver.proofs.Calling.{called_err, called_ok, logged_reached, not_stopped, reached_there}
use Rattle.scoop_driver.proofs.driver.Driver.end.Goals as goal

pub returns-in-Ok-turns_until-clause-does : goal.returns-in-Ok-turns_until-clause-does
returns-in-Ok-turns_until-clause-does g c =
    called_ok c.in-Ok-turns_until.field-0 (tt {0}) DoEnd _ _ _
    (logged_reached DoEnd _ c.in-Ok.turns _ _ _ _ _ c.in-Ok.ensures.does c.in-Ok-turns_until.ensures.does)

pub returns-in-Ok-turns_until-clause-ends : goal.returns-in-Ok-turns_until-clause-ends
returns-in-Ok-turns_until-clause-ends g c =
    not_stopped _ c.in-Ok-turns_until.field-0 _ (reached_there _ _ _ _ _ c.in-Ok-turns_until.ensures.does) c.in-Ok-turns_until.ensures.stopped

pub returns-in-Err-turns_until-clause-does : goal.returns-in-Err-turns_until-clause-does
returns-in-Err-turns_until-clause-does g c =
    called_err DoEnd _ c.in-Err-turns_until.error _ _
    (logged_reached DoEnd _ c.in-Ok.turns _ _ _ _ _ c.in-Ok.ensures.does c.in-Err-turns_until.ensures.does)
