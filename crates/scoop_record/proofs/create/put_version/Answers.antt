use Rattle.std.proofs.Common.{refl, sym, subst, IsErr}
use Rattle.sqlite.specs.Held.{state}
use Rattle.scoop_record.specs.Among.{meta_tree}
use Rattle.scoop_record.proofs.StatementLemmas.{clean_before}
use Rattle.scoop_record.proofs.Texts.{put_version}
use Rattle.scoop_record.proofs.among.Effects.{puts_version_among}
use Rattle.scoop_record.proofs.among.Version.{put_version_is}
use Rattle.scoop_record.proofs.create.put_version.Goals as goal

pub returns-clause-put : goal.returns-clause-put
returns-clause-put g c clean =
    let old = state g.S.Store c.args.tx.now.conn.now in
    let new = state g.S.Store c.execute.new.self.conn.now in
    let tree = meta_tree old.now.schema in
    puts_version_among put_version tree c.args.version (λ s at stands. put_version_is s at tree stands) old new c.execute.result
    (clean_before old new _ c.execute.ensures.survives clean) c.requires
    (λ outside. subst IsErr (sym (c.execute.ensures.ended outside).0) refl) (rw c.params-to_sql.ensures at (c.execute.ensures.runs clean))
