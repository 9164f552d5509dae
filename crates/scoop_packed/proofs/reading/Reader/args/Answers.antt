use Rattle.std.proofs.Common.{rules, arith}
use Rattle.scoop_packed.specs.Unpacked.{long_at}
use Rattle.scoop_packed.proofs.OneMore.{left_more, values_more}
use Rattle.scoop_packed.proofs.reading.Reader.args.Goals as goal

pub loop-i-preserved : goal.loop-i-preserved
loop-i-preserved c = record {
  size = search rules;
  values = values_more long_at c.loop-i.i c.args.self.now c.loop-i.numbers c.long.result c.loop-i.self (omega arith) c.loop-i.invariant.values
      c.loop-i.invariant.left c.long.ensures.long;
  left = rw (c.long.ensures.left) (left_more long_at c.loop-i.i c.args.self.now c.loop-i.self c.loop-i.invariant.left);
}
