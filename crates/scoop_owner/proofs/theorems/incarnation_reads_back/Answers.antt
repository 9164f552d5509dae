use Rattle.std.proofs.Common.{arith}
use Rattle.scoop_owner.proofs.ReadBack.{incarnation_read}
use Rattle.scoop_owner.proofs.theorems.incarnation_reads_back.Goals as goal

pub returns : goal.returns
returns c = incarnation_read c.args._inc (omega arith)
