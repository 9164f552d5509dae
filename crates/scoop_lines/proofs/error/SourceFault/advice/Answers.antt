use Rattle.std.proofs.Common.{refl}
use Rattle.std.specs.Fmt.{digits}
use Rattle.scoop_lines.proofs.error.SourceFault.advice.Goals as goal

pub returns-in-LineTooLong : goal.returns-in-LineTooLong
unfolding digits
returns-in-LineTooLong c = rw c.in-LineTooLong.is refl

pub returns-in-TooManyLines : goal.returns-in-TooManyLines
unfolding digits
returns-in-TooManyLines c = rw c.in-TooManyLines.is refl

pub returns-in-ReadFault : goal.returns-in-ReadFault
unfolding digits
returns-in-ReadFault c = rw c.in-ReadFault.is refl
