use Rattle.std.proofs.Common.{sym}
use Rattle.std.proofs.lemmas.List.{take_all}
use Rattle.scoop_system.proofs.name.beginning.Goals as goal

pub returns-then-text-le-MAX_NAME_LEN-clause-value : goal.returns-then-text-le-MAX_NAME_LEN-clause-value
returns-then-text-le-MAX_NAME_LEN-clause-value c = sym (take_all 32 c.args.text.now c.if-text-le-MAX_NAME_LEN.true)
