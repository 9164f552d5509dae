use Rattle.std.proofs.Common.{subst, sym, ap, rules, Err}
use Rattle.sqlite.specs.Held.{state}
use Rattle.sqlite.specs.State.{HasCleanDisk}
use Rattle.scoop_record.specs.Migrate.{IsLowestBad, HasOtherNumber}
use Rattle.scoop_record.proofs.migrate.migrate.Goals as goal

pub returns-in_err-migrate_in-clause-bad : goal.returns-in_err-migrate_in-clause-bad
returns-in_err-migrate_in-clause-bad g c sound handler is =
    let inside = state g.S.Store c.migrate_in.new.tx.conn.now in
    let clean : HasCleanDisk inside = search rules in
    let own = rw is at c.from_residual.ensures in
    subst (λ h. IsLowestBad (state g.S.Store h).now handler.0) c.transaction-tx.ensures.begun
    (c.in_err-migrate_in.ensures.bad clean handler (ap Err (sym own.1)))

pub returns-in_err-migrate_in-clause-wrong : goal.returns-in_err-migrate_in-clause-wrong
returns-in_err-migrate_in-clause-wrong g c sound is =
    let inside = state g.S.Store c.migrate_in.new.tx.conn.now in
    let clean : HasCleanDisk inside = search rules in
    let own = rw is at c.from_residual.ensures in
    subst (λ h. HasOtherNumber (state g.S.Store h).now) c.transaction-tx.ensures.begun (c.in_err-migrate_in.ensures.wrong clean (ap Err (sym own.1)))
