use Rattle.scoop_client.specs.declared.command.Command.TheVariants.{Call as DoCall}
use Rattle.scoop_driver.proofs.Calling.{called_logged}
use Rattle.scoop_driver.proofs.driver.Driver.call.Goals as goal

pub returns-in-Ok-clause-does : goal.returns-in-Ok-clause-does
returns-in-Ok-clause-does g c = called_logged (DoCall c.args.handler c.args.request) _ _ _ _ c.in-Ok.ensures.does
