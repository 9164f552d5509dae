use Rattle.std.proofs.Common.{codes, [], refl, ap, sym, subst, IsErr}
use Rattle.sqlite.specs.Held.{state}
use Rattle.scoop_record.specs.Tables.{pending}
use Rattle.scoop_record.proofs.StatementLemmas.{clean_before, executes_keep}
use Rattle.scoop_record.proofs.Texts.{create_pending}
use Rattle.scoop_record.proofs.among.Creating.{create_pending_is}
use Rattle.scoop_record.proofs.among.Effects.{makes_among}
use Rattle.scoop_record.proofs.create.create_pending.Goals as goal

pub returns-clause-made : goal.returns-clause-made
returns-clause-made g c clean =
    let old = state g.S.Store c.args.tx.now.conn.now in
    let new = state g.S.Store c.execute.new.self.conn.now in
    makes_among create_pending (codes "pending") (pending 0) refl create_pending_is old new c.execute.result
    (clean_before old new _ c.execute.ensures.survives clean) c.requires
    (λ outside. subst IsErr (sym (c.execute.ensures.ended outside).0) refl) (c.execute.ensures.runs clean)

pub returns-clause-kept : goal.returns-clause-kept
returns-clause-kept g c clean =
    let old = state g.S.Store c.args.tx.now.conn.now in
    let new = state g.S.Store c.execute.new.self.conn.now in
    executes_keep create_pending [] old new c.execute.result (λ outside. ap (state g.S.Store) (c.execute.ensures.ended outside).1)
    (c.execute.ensures.runs clean)
