use Rattle.std.proofs.Common.{◌+◌, [], ◌∷◌, ◌++◌, take, true, ◌≡◌, refl, subst, sym}
use Rattle.std.specs.List.{AllZip}
use Rattle.std.specs.Result.{is_ok}
use Rattle.scoop_system.specs.Known.{handlers_on}
use Rattle.scoop_runtime.specs.Members.{IsMemberOf}
use Rattle.scoop_runtime.proofs.Members.{member_more, member_none}
use Rattle.scoop_runtime.proofs.plan.members_on.Goals.{then-place-number+in_ok-member+in_ok-map_err, else-place-number}
use Rattle.scoop_runtime.proofs.plan.members_on.Goals as goal

pub loop-place-preserved : goal.loop-place-preserved
loop-place-preserved c =
    let s = c.args.system.now in
    let n = c.args.number in
    let hs = c.handlers-handlers.result.now in
    let i = c.loop-place.place-index in
    let h = c.place-item.result in
    let ms = c.loop-place.members.items in
    let more = member_more s n hs i h c.loop-place-test.true c.place-item.is ms in
    let none = member_none s n hs i h c.loop-place-test.true c.place-item.is ms in
    elim c.if-place-number.branch [
      | then-place-number+in_ok-member+in_ok-map_err w ↦
          let pushed : is_ok w.push.result ≡ true = sym w.in_ok-map_err.ensures.variant in
          let m = w.in_ok-member.member in
          subst (λ v. AllZip (IsMemberOf s) (handlers_on n (take (i + 1) hs)) v.items) (sym w.members-is)
          (rw (w.push.ensures.items) rw pushed (more (ms ++ m ∷ []) m w.if-place-number.true c.loop-place.invariant w.in_ok-member.ensures refl))
      | else-place-number w ↦
          subst (λ v. AllZip (IsMemberOf s) (handlers_on n (take (i + 1) hs)) v.items) (sym w.members-is) (none w.if-place-number.false c.loop-place.invariant)
    ]
