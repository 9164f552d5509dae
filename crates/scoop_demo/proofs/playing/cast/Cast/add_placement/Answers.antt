use Rattle.std.proofs.Common.{arith, ◌∙◌, ◌<◌, ◌≤◌, length}
use Rattle.scoop_message.specs.declared.limits.TheConstants.{MAX_HANDLERS}
use Rattle.scoop_demo.proofs.StagingLemmas.{placed_full, placed_more}
use Rattle.scoop_demo.proofs.playing.cast.Cast.add_placement.Goals as goal

pub returns-then-len-gt-MAX_HANDLERS-clause-kept : goal.returns-then-len-gt-MAX_HANDLERS-clause-kept
returns-then-len-gt-MAX_HANDLERS-clause-kept c before are =
    let full : MAX_HANDLERS < length c.args.self.now.placements.items = omega arith in placed_full _ _ before _ are full

pub returns-clause-kept : goal.returns-clause-kept
returns-clause-kept c before are =
    let few : length c.args.self.now.placements.items ≤ MAX_HANDLERS = omega arith in
    rw c.in_ok-push-2.ensures.items (placed_more _ _ c.in-Ok.object before _ are few (c.in-Ok.ensures.class ∙ c.in_ok-copy.ensures))
