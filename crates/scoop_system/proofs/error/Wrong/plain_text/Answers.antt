use Rattle.std.proofs.Common.{refl}
use Rattle.std.specs.Fmt.{digits}
use Rattle.scoop_system.proofs.error.Wrong.plain_text.Goals as goal

pub returns-in-NotWords : goal.returns-in-NotWords
unfolding digits
returns-in-NotWords c = rw c.in-NotWords.is refl

pub returns-in-NotHandlers : goal.returns-in-NotHandlers
unfolding digits
returns-in-NotHandlers c = rw c.in-NotHandlers.is refl

pub returns-in-NotAddresses : goal.returns-in-NotAddresses
unfolding digits
returns-in-NotAddresses c = rw c.in-NotAddresses.is refl
