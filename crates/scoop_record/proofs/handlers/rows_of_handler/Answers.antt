use Rattle.std.proofs.Common.{codes, pos, [], ◌∷◌, refl}
use Rattle.sqlite.specs.declared.types.Value.TheVariants.{Int}
use Rattle.sqlite.specs.Held.{state}
use Rattle.scoop_record.specs.Among.{handlers_tree}
use Rattle.scoop_record.proofs.StatementLemmas.{ok_then, clean_before, was_open, query_keeps}
use Rattle.scoop_record.proofs.Texts.{select_image}
use Rattle.scoop_record.proofs.among.Effects.{still_among, shows_among, low_tree}
use Rattle.scoop_record.proofs.among.Selecting.{select_image_is}
use Rattle.scoop_record.proofs.handlers.rows_of_handler.Goals as goal

pub returns-clause-rows : goal.returns-clause-rows
returns-clause-rows g c clean =
    let old = state g.S.Store c.args.tx.now.conn.now in
    let new = state g.S.Store c.query_all.new.self.conn.now in
    let s = old.now.schema in
    ok_then c.query_all.result _ _ (λ rows shown.
    let ready = c.requires (clean_before old new _ c.query_all.ensures.survives clean, was_open select_image _ old new rows.items shown) in
    let is = select_image_is s ready.first.has_handlers.at (handlers_tree s) ready.first.has_handlers.stands in (
      still_among s select_image _ old new rows.items refl is.1 shown,
      λ few. shows_among s select_image (handlers_tree s) c.args.handler (codes "image") old new rows.items
          (low_tree _ ready.first.has_handlers.stands.low) refl few is shown,
    )
    ) (rw c.params-to_sql.ensures at (c.query_all.ensures.ok clean))

pub returns-clause-kept : goal.returns-clause-kept
returns-clause-kept g c clean =
    let old = state g.S.Store c.args.tx.now.conn.now in
    let new = state g.S.Store c.query_all.new.self.conn.now in
    query_keeps select_image (Int (pos c.args.handler) ∷ []) old new c.query_all.result
    (ok_then c.query_all.result _ _ (λ rows it. it.0) (returns-clause-rows g c clean)) (rw c.params-to_sql.ensures at (c.query_all.ensures.err clean))
