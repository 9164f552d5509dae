use Rattle.std.proofs.Common.{codes, refl, IsErr, sym, subst}
use Rattle.sqlite_schema.specs.declared.schema.Kind.TheVariants.{Blob as SqlBlob}
use Rattle.sqlite.specs.declared.types.Value.TheVariants.{Blob}
use Rattle.sqlite.specs.Held.{state}
use Rattle.scoop_record.specs.Among.{pending_tree}
use Rattle.scoop_record.proofs.StatementLemmas.{clean_before}
use Rattle.scoop_record.proofs.Texts.{put_entries}
use Rattle.scoop_record.proofs.among.Effects.{puts_among}
use Rattle.scoop_record.proofs.among.Upserting.{put_entries_is}
use Rattle.scoop_record.proofs.handlers.put_entries.Goals as goal

pub returns-clause-put : goal.returns-clause-put
returns-clause-put g c clean =
    let old = state g.S.Store c.args.tx.now.conn.now in
    let new = state g.S.Store c.execute.new.self.conn.now in
    let before = clean_before old new _ c.execute.ensures.survives clean in
    let tree = pending_tree old.now.schema in
    puts_among put_entries (codes "pending") (codes "h") (codes "entries") SqlBlob tree (λ s at stands. put_entries_is s at tree stands)
    c.args.handler (Blob c.args.entries.now) refl old new c.execute.result before (λ sound. (c.requires sound).has_pending)
    (λ outside. subst IsErr (sym (c.execute.ensures.ended outside).0) refl)
    (rw (c.params-to_sql.ensures, c.params-to_sql-2.ensures) at (c.execute.ensures.runs clean))
