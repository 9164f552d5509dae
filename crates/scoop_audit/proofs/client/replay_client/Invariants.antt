-- The lines so far were read, and each further one leaves fewer bytes.
use Rattle.std.specs.Prelude.{length}
use Rattle.scoop_weaver.specs.Post.{Grows}
use Rattle.scoop_audit.specs.Client.{ClientUpTo}
use Rattle.scoop_audit.proofs.client.replay_client.Given as goal

abbrev pub invariant-loop-text : goal.invariant-loop-text
invariant-loop-text l =
    Grows l.fn.post l.post × ClientUpTo l.joined.id l.joined.batch l.last l.bytes l.cursor.rest.now l.fn.replay l.replay l.fn.post l.post

abbrev pub decreases-loop-text : goal.decreases-loop-text
decreases-loop-text l = length l.cursor.rest.now
