use Rattle.std.proofs.Common.{Err, ap, sym}
use Rattle.scoop_record.proofs.store.Store.adopt.Goals as goal

pub returns-in_err-adopt_tables-clause-bad : goal.returns-in_err-adopt_tables-clause-bad
returns-in_err-adopt_tables-clause-bad g c honest handler is =
    let own = rw is at c.from_residual.ensures in
    c.in_err-adopt_tables.ensures.bad (honest c.adopt_tables.new.conn) handler (ap Err (sym own.1))
