use Rattle.std.proofs.Common.{[], refl}
use Rattle.sqlite.specs.Held.{state}
use Rattle.scoop_record.specs.Among.{meta_tree}
use Rattle.scoop_record.specs.Tables.{meta}
use Rattle.scoop_record.proofs.StatementLemmas.{ok_then, ok_on, was_open, any_query_keeps}
use Rattle.scoop_record.proofs.Texts.{select_version}
use Rattle.scoop_record.proofs.among.Effects.{shows_version_among}
use Rattle.scoop_record.proofs.among.Lowering.{stored}
use Rattle.scoop_record.proofs.among.Selecting.{select_version_is}
use Rattle.scoop_record.proofs.version.rows_of_meta.Goals as goal

pub returns-clause-version : goal.returns-clause-version
returns-clause-version g c clean =
    let old = state g.S.Store c.args.tx.now.conn.now in
    let new = state g.S.Store c.query_all.new.self.conn.now in
    ok_then c.query_all.result _ _ (λ rows shown laid few.
    let has = laid.has_meta in
    let s = old.now.schema in
    shows_version_among s select_version (meta_tree s) old new rows.items (stored s has.at (meta (meta_tree s)) has.stands) refl few
    (select_version_is s has.at (meta_tree s) has.stands) shown) (c.query_all.ensures.ok clean)

pub returns-clause-kept : goal.returns-clause-kept
returns-clause-kept g c clean inside =
    let old = state g.S.Store c.args.tx.now.conn.now in
    let new = state g.S.Store c.query_all.new.self.conn.now in
    any_query_keeps select_version [] old new c.query_all.result (λ rows. rows.items) inside (c.query_all.ensures.ok clean) (c.query_all.ensures.err clean)

pub returns-clause-is_open : goal.returns-clause-is_open
returns-clause-is_open g c clean =
    let old = state g.S.Store c.args.tx.now.conn.now in
    let new = state g.S.Store c.query_all.new.self.conn.now in
    ok_on c.query_all.result _ _ (λ rows shown. was_open select_version [] old new rows.items shown) (c.query_all.ensures.ok clean)
