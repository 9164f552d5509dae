use Rattle.std.proofs.Common.{take}
use Rattle.scoop_record.proofs.NumberLemmas.{AreUnder}
use Rattle.scoop_record.proofs.migrate.check_numbers.Given as goal

abbrev pub invariant-loop-row : goal.invariant-loop-row
invariant-loop-row l = AreUnder l.low (take l.row-index l.rows)
