use Rattle.std.proofs.Common.{rules, arith}
use Rattle.scoop_packed.specs.Unpacked.{logged_at}
use Rattle.scoop_packed.proofs.OneMore.{left_more, values_more}
use Rattle.scoop_packed.proofs.reading.Reader.several.Goals as goal

pub loop-i-preserved : goal.loop-i-preserved
loop-i-preserved c = record {
  size = search rules;
  values = values_more logged_at c.loop-i.i c.args.self.now c.loop-i.cells c.logged.result c.loop-i.self (omega arith) c.loop-i.invariant.values
      c.loop-i.invariant.left c.logged.ensures.entry;
  left = rw (c.logged.ensures.left) (left_more logged_at c.loop-i.i c.args.self.now c.loop-i.self c.loop-i.invariant.left);
}
