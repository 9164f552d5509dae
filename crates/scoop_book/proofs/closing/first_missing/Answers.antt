use Rattle.std.proofs.Common.{below_more}
use Rattle.scoop_book.proofs.closing.first_missing.Goals as goal

pub loop-number-preserved : goal.loop-number-preserved
loop-number-preserved g c = below_more _ _ c.loop-number.invariant (c.has_number.ensures.0 c.if-not-has_number.false)
