use Rattle.std.proofs.Common.{arith}
use Rattle.std.specs.Int.{w16, to_be_bytes}
use Rattle.scoop_frame.proofs.Writing.{part_written}
use Rattle.scoop_frame.proofs.number.put_u16.Goals as goal

pub returns : goal.returns
returns c = part_written c.args.at (to_be_bytes w16 c.args.number) c.args.out.now c.write_u16.new.buf (omega arith) c.write_u16.ensures
