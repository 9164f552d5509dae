use Rattle.std.proofs.Common.{refl}
use Rattle.std.specs.Fmt.{digits}
use Rattle.scoop_texts.proofs.advice.line_advice.Goals as goal

pub returns-in-TooManyHandlers : goal.returns-in-TooManyHandlers
unfolding digits
returns-in-TooManyHandlers c = rw c.in-TooManyHandlers.is refl

pub returns-in-TooManyConditions : goal.returns-in-TooManyConditions
unfolding digits
returns-in-TooManyConditions c = rw c.in-TooManyConditions.is refl
