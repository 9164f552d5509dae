-- The journals of the parties so far tell what their trails have.
use Rattle.std.proofs.Common.{◌≡◌, [], map, take}
use Rattle.scoop_audit.specs.Members.{TellMembers}
use Rattle.scoop_audit.proofs.auditing.replay_all.Given as goal

abbrev pub invariant-loop-member : goal.invariant-loop-member
invariant-loop-member l =
    l.fn.replayed.trails.items ≡ []
    → TellMembers l.system (map (λ j. j.bytes.now) l.journals) l.replayed.post (take l.member-index l.members) l.replayed.trails.items
