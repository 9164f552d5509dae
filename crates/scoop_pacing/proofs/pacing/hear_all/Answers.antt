use Rattle.std.proofs.Common.{arith}
use Rattle.std.proofs.lemmas.List.{get_or_default}
use Rattle.std.proofs.lemmas.List.Edits.{map_over_more}
use Rattle.scoop_pacing.specs.Pacing.{hears}
use Rattle.scoop_pacing.proofs.pacing.hear_all.Goals as goal

pub loop-ask-preserved : goal.loop-ask-preserved
loop-ask-preserved c =
    let i = c.loop-ask.ask-index in
    rw (c.hear.ensures) (map_over_more (hears c.args.from c.args.now) c.args.asks.now c.loop-ask.asks i _ (omega arith) c.loop-ask.invariant
    (get_or_default c.loop-ask.asks i _ _ (omega arith)))
