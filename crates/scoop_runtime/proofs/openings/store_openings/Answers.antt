use Rattle.std.proofs.Common.{◌≡◌, slice_get, Some, subst}
use Rattle.scoop_keeper.proofs.Keyed.{item_at}
use Rattle.scoop_runtime.specs.NodeLives.{stays_at}
use Rattle.scoop_runtime.proofs.NodeLives.{gains_more}
use Rattle.scoop_runtime.proofs.openings.store_openings.Goals as goal

pub loop-member-init : goal.loop-member-init
loop-member-init g c = record { gained = λ honest h. stays_at (λ v. ((λ x. x), (λ y. y))); honest = λ h. h }

pub loop-member-preserved : goal.loop-member-preserved
loop-member-preserved g c =
    let old = g.K.Keeper.handlers c.args.keeper.now in
    let i = c.loop-member.member-index in
    let members = c.args.plan.now.members.items in
    let there = subst (λ ms. slice_get ms i ≡ Some c.member-item.result) c.deref-member-items.ensures.value
    (item_at c.deref-member-items.result.now i c.member-item.result c.loop-member-test.true c.member-item.is) in
    record {
      gained = λ honest h. gains_more old (g.K.Keeper.handlers c.loop-member.keeper) (g.K.Keeper.handlers c.store_opening.new.keeper) members
          c.member-item.result i there (c.in_ok-store_opening.ensures.gained honest) h (c.loop-member.invariant.gained (c.store_opening.ensures.honest honest) h);
      honest = λ honest. c.loop-member.invariant.honest (c.store_opening.ensures.honest honest);
    }
