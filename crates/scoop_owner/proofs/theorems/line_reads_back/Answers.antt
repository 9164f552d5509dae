use Rattle.std.proofs.Common.{arith}
use Rattle.scoop_owner.proofs.ReadBack.{line_read}
use Rattle.scoop_owner.proofs.theorems.line_reads_back.Goals as goal

pub returns : goal.returns
returns c = line_read c.args._newest (omega arith) (omega arith) (omega arith) (omega arith)
