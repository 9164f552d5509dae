use Rattle.std.proofs.Common.{arith, ◌<◌, ◌≤◌, length}
use Rattle.scoop_message.specs.declared.limits.TheConstants.{MAX_CLIENTS}
use Rattle.scoop_demo.proofs.StagingLemmas.{first_full, first_more}
use Rattle.scoop_demo.proofs.playing.cast.Cast.add_client.Goals as goal

pub returns-then-len-gt-MAX_CLIENTS-clause-kept : goal.returns-then-len-gt-MAX_CLIENTS-clause-kept
returns-then-len-gt-MAX_CLIENTS-clause-kept c before are =
    let full : MAX_CLIENTS < length c.args.self.now.clients.items = omega arith in first_full MAX_CLIENTS _ before _ are full

pub returns-clause-kept : goal.returns-clause-kept
returns-clause-kept c before are =
    let few : length c.args.self.now.clients.items ≤ MAX_CLIENTS = omega arith in rw c.in_ok-push-2.ensures.items (first_more MAX_CLIENTS _ before _ are few)
