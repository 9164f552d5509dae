use Rattle.std.proofs.Common.{codes, pos, refl, IsErr, sym, subst}
use Rattle.sqlite_schema.specs.declared.schema.Kind.TheVariants.{Integer}
use Rattle.sqlite.specs.declared.types.Value.TheVariants.{Int}
use Rattle.sqlite.specs.Held.{state}
use Rattle.scoop_record.specs.Among.{clients_tree}
use Rattle.scoop_record.proofs.StatementLemmas.{clean_before}
use Rattle.scoop_record.proofs.Texts.{put_inc}
use Rattle.scoop_record.proofs.UpsertLemmas.{cast_int}
use Rattle.scoop_record.proofs.among.Effects.{puts_among}
use Rattle.scoop_record.proofs.among.Upserting.{put_inc_is}
use Rattle.scoop_record.proofs.clients.put_inc.Goals as goal

pub returns-clause-put : goal.returns-clause-put
returns-clause-put g c clean =
    let old = state g.S.Store c.args.tx.now.conn.now in
    let new = state g.S.Store c.execute.new.self.conn.now in
    let before = clean_before old new _ c.execute.ensures.survives clean in
    let tree = clients_tree old.now.schema in
    puts_among put_inc (codes "clients") (codes "c") (codes "inc") Integer tree (λ s at stands. put_inc_is s at tree stands)
    c.args.client (Int (pos c.args.inc)) (cast_int (pos c.args.inc)) old new c.execute.result before (λ sound. (c.requires sound).first.has_clients)
    (λ outside. subst IsErr (sym (c.execute.ensures.ended outside).0) refl)
    (rw (c.params-to_sql.ensures, c.params-to_sql-2.ensures) at (c.execute.ensures.runs clean))
