use Rattle.std.proofs.Common.{map}
use Rattle.scoop_audit.specs.declared.auditing.Journal.{Journal}
use Rattle.scoop_audit.proofs.Paged.{members_next}
use Rattle.scoop_audit.proofs.auditing.replay_all.Goals as goal

pub loop-member-preserved : goal.loop-member-preserved
loop-member-preserved c =
    λ none.
    members_next c.args.system.now (map (λ (j : Journal). j.bytes.now) c.args.journals.now) c.loop-member.replayed.post
    c.replay.new.replayed.post c.args.members.now c.loop-member.member-index _ c.bytes_of-bytes.result.now c.loop-member.replayed.trails.items
    c.replay.new.replayed.trails.items c.loop-member-test.true c.in-Ok.ensures.grows (c.loop-member.invariant none) c.bytes_of-bytes.ensures
    c.in-Ok.ensures.adds
