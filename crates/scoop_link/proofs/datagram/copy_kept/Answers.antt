use Rattle.scoop_link.proofs.Kept.{take-copied}
use Rattle.scoop_link.proofs.datagram.copy_kept.Goals as goal

pub returns-clause-copied : goal.returns-clause-copied
returns-clause-copied c = take-copied c.args.bytes.now _ _ _ c.min-len.ensures c.copy_from_slice.ensures.after
