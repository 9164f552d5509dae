use Rattle.std.proofs.Common.{take}
use Rattle.std.specs.List.{AllZip}
use Rattle.scoop_record.specs.Migrate.{IsFirstRow}
use Rattle.scoop_record.proofs.migrate.states_of.Given as goal

abbrev pub invariant-loop-row : goal.invariant-loop-row
invariant-loop-row l = AllZip IsFirstRow (take l.row-index l.rows) l.all.items
