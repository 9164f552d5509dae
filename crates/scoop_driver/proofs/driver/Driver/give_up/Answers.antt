use Rattle.scoop_driver.proofs.Calling.{gave_up, not_given_up}
use Rattle.scoop_driver.proofs.driver.Driver.give_up.Goals as goal

pub returns-in-Ok-clause-does : goal.returns-in-Ok-clause-does
returns-in-Ok-clause-does g c = gave_up _ _ c.in-Ok.ensures.does

pub returns-in-Err-clause-does : goal.returns-in-Err-clause-does
returns-in-Err-clause-does g c = not_given_up c.in-Err.error _ _ c.in-Err.ensures.does
