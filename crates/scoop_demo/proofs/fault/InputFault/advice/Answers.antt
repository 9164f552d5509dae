use Rattle.std.proofs.Common.{refl}
use Rattle.std.specs.Fmt.{digits}
use Rattle.scoop_demo.proofs.fault.InputFault.advice.Goals as goal

pub returns-in-TooManyArguments : goal.returns-in-TooManyArguments
unfolding digits
returns-in-TooManyArguments c = rw c.in-TooManyArguments.is refl

pub returns-in-TooManyHandlers : goal.returns-in-TooManyHandlers
unfolding digits
returns-in-TooManyHandlers c = rw c.in-TooManyHandlers.is refl
