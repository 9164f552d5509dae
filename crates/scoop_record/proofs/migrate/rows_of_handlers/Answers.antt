use Rattle.std.proofs.Common.{[], refl}
use Rattle.sqlite.specs.Held.{state}
use Rattle.scoop_record.specs.Among.{handlers_tree}
use Rattle.scoop_record.specs.Tables.{handlers}
use Rattle.scoop_record.proofs.StatementLemmas.{ok_then, clean_before, was_open, query_keeps}
use Rattle.scoop_record.proofs.Texts.{select_images}
use Rattle.scoop_record.proofs.among.Effects.{still_among, shows_all_among}
use Rattle.scoop_record.proofs.among.Listing.{select_images_is}
use Rattle.scoop_record.proofs.among.Lowering.{stored}
use Rattle.scoop_record.proofs.migrate.rows_of_handlers.Goals as goal

pub returns-clause-rows : goal.returns-clause-rows
returns-clause-rows g c clean =
    let old = state g.S.Store c.args.tx.now.conn.now in
    let new = state g.S.Store c.query_all.new.self.conn.now in
    ok_then c.query_all.result _ _ (λ rows shown.
    let ready = c.requires (clean_before old new _ c.query_all.ensures.survives clean, was_open select_images _ old new rows.items shown) in
    let has = ready.first.has_handlers in
    let s = old.now.schema in
    let is = select_images_is s has.at (handlers_tree s) has.stands in (
      still_among s select_images _ old new rows.items refl is.1 shown,
      shows_all_among s select_images (handlers_tree s) old new rows.items (stored s has.at (handlers (handlers_tree s)) has.stands) refl is.0 is.1 shown,
    )
    ) (c.query_all.ensures.ok clean)

pub returns-clause-kept : goal.returns-clause-kept
returns-clause-kept g c clean =
    let old = state g.S.Store c.args.tx.now.conn.now in
    let new = state g.S.Store c.query_all.new.self.conn.now in
    query_keeps select_images [] old new c.query_all.result (ok_then c.query_all.result _ _ (λ rows it. it.0) (returns-clause-rows g c clean))
    (c.query_all.ensures.err clean)
