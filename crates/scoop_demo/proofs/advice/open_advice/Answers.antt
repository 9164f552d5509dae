use Rattle.std.proofs.Common.{refl}
use Rattle.std.specs.Fmt.{digits}
use Rattle.scoop_demo.proofs.advice.open_advice.Goals as goal

pub returns-in-TooManyHandlers : goal.returns-in-TooManyHandlers
unfolding digits
returns-in-TooManyHandlers c = rw c.in-TooManyHandlers.is refl

pub returns-in-TooManyClients : goal.returns-in-TooManyClients
unfolding digits
returns-in-TooManyClients c = rw c.in-TooManyClients.is refl
