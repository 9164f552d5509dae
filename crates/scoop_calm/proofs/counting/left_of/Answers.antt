use Rattle.std.proofs.Common.{arith}
use Rattle.scoop_calm.specs.Bound.{left}
use Rattle.scoop_calm.proofs.Sums.{below, above}
use Rattle.scoop_calm.proofs.counting.left_of.Goals as goal

pub returns-then-left-lt18446744073709551615 : goal.returns-then-left-lt18446744073709551615
returns-then-left-lt18446744073709551615 g c = below (left c.args.world.now) c.all_in-left.result c.all_in-left.ensures (omega arith)

pub returns : goal.returns
returns g c = above (left c.args.world.now) c.all_in-left.result c.all_in-left.ensures (omega arith)
