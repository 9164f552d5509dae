use Rattle.std.proofs.Common.{sym, ◌∙◌}
use Rattle.scoop_demo.proofs.StagingLemmas.{closed_if}
use Rattle.scoop_demo.proofs.playing.cast.Cast.open_by.Goals as goal

pub returns-clause-err : goal.returns-clause-err
returns-clause-err c parties stored staged = closed_if _ _ _ _ _ parties stored _ c.open.result (sym c.is_some.ensures ∙ c.if-is_some.false)
    (c.open.ensures.err parties stored) staged
