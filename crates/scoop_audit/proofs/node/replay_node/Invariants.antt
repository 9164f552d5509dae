-- The lines so far were read, and each further one leaves fewer bytes.
use Rattle.std.specs.Prelude.{length}
use Rattle.scoop_weaver.specs.Post.{Grows}
use Rattle.scoop_audit.specs.Node.{NodeUpTo}
use Rattle.scoop_audit.proofs.node.replay_node.Given as goal

abbrev pub invariant-loop-text : goal.invariant-loop-text
invariant-loop-text l = Grows l.fn.post l.post × NodeUpTo l.bytes l.cursor.rest.now l.fn.node l.node l.fn.post l.post

abbrev pub decreases-loop-text : goal.decreases-loop-text
decreases-loop-text l = length l.cursor.rest.now
