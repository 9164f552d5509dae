use Rattle.std.proofs.Common.{◌<◌, ◌≤◌, length, get_or, true, ◌≡◌, subst, sym}
use Rattle.std.proofs.lemmas.List.{take_all}
use Rattle.std.specs.List.{AllZip}
use Rattle.std.specs.Result.{is_ok}
use Rattle.scoop_runtime.specs.NodeLives.{IsMemberObject}
use Rattle.scoop_runtime.proofs.NodeLives.{objects_more}
use Rattle.scoop_runtime.proofs.plan.NodePlan.handed.Goals as goal

pub loop-member-preserved : goal.loop-member-preserved
loop-member-preserved g c =
    let i = c.loop-member.member-index in
    let ms = c.args.self.now.members.items in
    let same = c.deref-member-items.ensures.value in
    let within = subst (λ xs. i < length xs) same c.loop-member-test.true in
    let is = subst (λ xs. c.member-item.result ≡ get_or xs i c.member-item.result) same c.member-item.is in
    let pushed : is_ok c.push.result ≡ true = sym c.in_ok-map_err.ensures.variant in
    let all = objects_more g.O.Object.Behaviour.words ms i c.member-item.result c.loop-member.handlers.items c.in_ok-opened.opened within is c.loop-member.invariant
    c.in_ok-opened.ensures in
    rw (c.push.ensures.items) rw pushed all

pub returns-clause-members : goal.returns-clause-members
returns-clause-members g c =
    let ms = c.args.self.now.members.items in
    let over = subst (λ xs. length xs ≤ c.loop-member.member-index) c.deref-member-items.ensures.value c.loop-member-test.false in
    subst (λ xs. AllZip (IsMemberObject g.O.Object.Behaviour.words) xs c.loop-member.handlers.items) (take_all c.loop-member.member-index ms over) c.loop-member.invariant
