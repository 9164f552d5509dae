-- The messages have grown, and what was read stays read.
use Rattle.std.proofs.Common.{ℕ, List}
use Rattle.scoop_message.specs.declared.message.Message.{Message}
use Rattle.scoop_weaver.specs.Post.{Grows}
use Rattle.scoop_replay.specs.Client.{ClientValue}
use Rattle.scoop_audit.specs.Client.{ClientUpTo}
use Rattle.scoop_audit.proofs.client.begin_life.Given as goal

abbrev pub invariant-loop : goal.invariant-loop
invariant-loop l =
    Grows l.fn.post l.post
    × ((last : ℕ) (bytes rest : List ℕ) (first : ClientValue) (sent : List Message)
    → ClientUpTo l.joined.id l.joined.batch last bytes rest first l.fn.replay sent l.fn.post
    → ClientUpTo l.joined.id l.joined.batch last bytes rest first l.replay sent l.post)
