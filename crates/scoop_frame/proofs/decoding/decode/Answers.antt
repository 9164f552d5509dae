use Rattle.scoop_frame.proofs.Exact.{reads_exactly, refuses_exactly}
use Rattle.scoop_frame.proofs.decoding.decode.Goals as goal

pub returns-clause-ok : goal.returns-clause-ok
returns-clause-ok c = λ v m. reads_exactly c.args.bytes.now c.read.result c.read.ensures v m

pub returns-clause-err : goal.returns-clause-err
returns-clause-err c = λ e. refuses_exactly c.args.bytes.now c.read.result c.read.ensures e
