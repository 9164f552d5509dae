use Rattle.std.proofs.Common.{subst, sym, ap, Err}
use Rattle.sqlite.specs.Effect.{Database}
use Rattle.sqlite.specs.Held.{state}
use Rattle.scoop_record.specs.Store.{IsRecord, SavesAll}
use Rattle.scoop_record.proofs.StatementLemmas.{clean_before}
use Rattle.scoop_record.proofs.MigrateLemmas.{version_before, migrated}
use Rattle.scoop_record.proofs.NumberLemmas.{lowest_bad, other_number}
use Rattle.scoop_record.proofs.among.MigratedRows.{is_second, listed_before}
use Rattle.scoop_record.proofs.migrate.migrate_in.Goals as goal

pub create_pending-requires : goal.create_pending-requires
create_pending-requires g c sound = let room = (c.requires sound).1 in (room.free.0, room.uncounted)

pub rows_of_handlers-requires : goal.rows_of_handlers-requires
rows_of_handlers-requires g c sound =
    let before = state g.S.Store c.args.tx.now.conn.now in
    let made = state g.S.Store c.create_pending.new.tx.conn.now in
    let clean0 = clean_before before made _ c.create_pending.ensures.survives sound.0 in
    let makes = c.in_default.ensures.made sound.0 in
    let first = c.requires (clean0, makes.1.was_open) in
    is_second before.now made.now first.0 first.1 makes.0

pub put_states-requires : goal.put_states-requires
put_states-requires g c sound =
    let before = state g.S.Store c.args.tx.now.conn.now in
    let made = state g.S.Store c.create_pending.new.tx.conn.now in
    let read = state g.S.Store c.rows_of_handlers.new.tx.conn.now in
    let clean1 = clean_before made read _ c.rows_of_handlers.ensures.survives sound.0 in
    let clean0 = clean_before before made _ c.create_pending.ensures.survives clean1 in
    let makes = c.in_default.ensures.made clean1 in
    let first = c.requires (clean0, makes.1.was_open) in
    let shown = c.in-Ok.ensures.rows sound.0 in
    subst IsRecord (sym shown.0.0.now_is) (is_second before.now made.now first.0 first.1 makes.0)

pub raise_version-requires : goal.raise_version-requires
raise_version-requires g c sound =
    let before = state g.S.Store c.args.tx.now.conn.now in
    let made = state g.S.Store c.create_pending.new.tx.conn.now in
    let read = state g.S.Store c.rows_of_handlers.new.tx.conn.now in
    let saved = state g.S.Store c.put_states.new.tx.conn.now in
    let clean2 = clean_before read saved _ c.put_states.ensures.survives sound.0 in
    let clean1 = clean_before made read _ c.rows_of_handlers.ensures.survives clean2 in
    let clean0 = clean_before before made _ c.create_pending.ensures.survives clean1 in
    let makes = c.in_default.ensures.made clean1 in
    let first = c.requires (clean0, makes.1.was_open) in
    let shown = c.in-Ok.ensures.rows clean2 in
    let saves = subst (λ (d : Database). SavesAll d saved.now c.as_slice-2.result.now) shown.0.0.now_is (c.in_ok-put_states.ensures.put sound) in
    version_before before.now made.now saved.now saved.now c.as_slice-2.result.now first.0 first.1 makes.0 saves

pub returns-in-Ok-raise_version-clause-migrated : goal.returns-in-Ok-raise_version-clause-migrated
returns-in-Ok-raise_version-clause-migrated g c clean =
    let before = state g.S.Store c.args.tx.now.conn.now in
    let made = state g.S.Store c.create_pending.new.tx.conn.now in
    let read = state g.S.Store c.rows_of_handlers.new.tx.conn.now in
    let saved = state g.S.Store c.put_states.new.tx.conn.now in
    let after = state g.S.Store c.raise_version.new.tx.conn.now in
    let clean3 = clean_before saved after _ c.raise_version.ensures.survives clean in
    let clean2 = clean_before read saved _ c.put_states.ensures.survives clean3 in
    let clean1 = clean_before made read _ c.rows_of_handlers.ensures.survives clean2 in
    let clean0 = clean_before before made _ c.create_pending.ensures.survives clean1 in
    let put = c.in-Ok-raise_version.ensures.put clean in
    let makes = c.in_default.ensures.made clean1 in
    let first = c.requires (clean0, makes.1.was_open) in
    let shown = c.in-Ok.ensures.rows clean2 in
    let saves =
    subst (λ (d : Database). SavesAll d saved.now c.as_slice-2.result.now) shown.0.0.now_is (c.in_ok-put_states.ensures.put (clean3, put.1.was_open)) in
    migrated before.now made.now saved.now after.now c.as_slice-2.result.now first.0 first.1 makes.0 saves c.as_slice.result.now
    (rw c.as_slice.ensures.value shown.1) (rw c.as_slice-2.ensures.value c.in_ok-all.ensures.read)
    (rw c.as_slice-2.ensures.value c.in_ok-all.ensures.rises) put.0.0 put.0.1

pub returns-in_err-all-clause-bad : goal.returns-in_err-all-clause-bad
returns-in_err-all-clause-bad g c clean2 handler is =
    let before = state g.S.Store c.args.tx.now.conn.now in
    let made = state g.S.Store c.create_pending.new.tx.conn.now in
    let read = state g.S.Store c.rows_of_handlers.new.tx.conn.now in
    let clean1 = clean_before made read _ c.rows_of_handlers.ensures.survives clean2 in
    let clean0 = clean_before before made _ c.create_pending.ensures.survives clean1 in
    let makes = c.in_default.ensures.made clean1 in
    let first = c.requires (clean0, makes.1.was_open) in
    let shown = c.in-Ok.ensures.rows clean2 in
    let own = rw is at c.from_residual.ensures in
    lowest_bad before.now c.as_slice.result.now handler.0
    (listed_before before.now made.now first.0 first.1 makes.0 c.as_slice.result.now (rw c.as_slice.ensures.value shown.1)) first.0
    (c.in_err-all.ensures.bad handler (ap Err (sym own.1)))

pub returns-in_err-all-clause-wrong : goal.returns-in_err-all-clause-wrong
returns-in_err-all-clause-wrong g c clean2 is =
    let before = state g.S.Store c.args.tx.now.conn.now in
    let made = state g.S.Store c.create_pending.new.tx.conn.now in
    let read = state g.S.Store c.rows_of_handlers.new.tx.conn.now in
    let clean1 = clean_before made read _ c.rows_of_handlers.ensures.survives clean2 in
    let clean0 = clean_before before made _ c.create_pending.ensures.survives clean1 in
    let makes = c.in_default.ensures.made clean1 in
    let first = c.requires (clean0, makes.1.was_open) in
    let shown = c.in-Ok.ensures.rows clean2 in
    let own = rw is at c.from_residual.ensures in
    other_number before.now c.as_slice.result.now
    (listed_before before.now made.now first.0 first.1 makes.0 c.as_slice.result.now (rw c.as_slice.ensures.value shown.1)) first.0
    (c.in_err-all.ensures.wrong (ap Err (sym own.1)))
