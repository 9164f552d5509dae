use Rattle.std.proofs.Common.{pos, refl, IsErr, sym, subst}
use Rattle.sqlite.specs.declared.types.Value.TheVariants.{Int}
use Rattle.sqlite.specs.Held.{state}
use Rattle.scoop_record.specs.Among.{meta_tree}
use Rattle.scoop_record.proofs.StatementLemmas.{clean_before}
use Rattle.scoop_record.proofs.Texts.{raise_version}
use Rattle.scoop_record.proofs.among.Effects.{raises_version_among}
use Rattle.scoop_record.proofs.among.Version.{raise_version_is}
use Rattle.scoop_record.proofs.migrate.raise_version.Goals as goal

pub returns-clause-put : goal.returns-clause-put
returns-clause-put g c clean =
    let old = state g.S.Store c.args.tx.now.conn.now in
    let new = state g.S.Store c.execute.new.self.conn.now in
    let tree = meta_tree old.now.schema in
    raises_version_among raise_version tree c.args.version (Int (pos 1)) (λ s at. raise_version_is s at tree) old new c.execute.result
    (clean_before old new _ c.execute.ensures.survives clean)
    (λ sound. let ready = c.requires sound in (ready.0.first.has_meta, ready.1))
    (λ outside. subst IsErr (sym (c.execute.ensures.ended outside).0) refl) (rw c.params-to_sql.ensures at (c.execute.ensures.runs clean))
