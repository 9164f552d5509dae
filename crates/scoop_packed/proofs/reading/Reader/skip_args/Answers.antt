use Rattle.scoop_packed.specs.Unpacked.{long_at}
use Rattle.scoop_packed.proofs.OneMore.{left_more}
use Rattle.scoop_packed.proofs.reading.Reader.skip_args.Goals as goal

pub loop-preserved : goal.loop-preserved
loop-preserved c = rw c.skip_long.ensures (left_more long_at c.loop.counter c.args.self.now c.loop.self c.loop.invariant)
