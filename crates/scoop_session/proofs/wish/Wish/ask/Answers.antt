use Rattle.std.proofs.Common.{rules, ◌≡◌, None, true, subst, sym}
use Rattle.scoop_driver.specs.Wishes.{first_outside, wish_for}
use Rattle.scoop_reserve.specs.Handlers.{has}
use Rattle.scoop_session.proofs.Inside.{part_inside_if}
use Rattle.scoop_session.proofs.wish.Wish.ask.Goals as goal

pub invariant_of-self : goal.invariant_of-self
invariant_of-self c =
    let w = c.args.self.now in
    let asked : has w.handlers c.args.condition.now.asked ≡ true = search rules in
    let there : has w.handlers c.part_of.result.handler ≡ true = subst (λ p. has w.handlers p.handler ≡ true) (sym c.part_of.ensures) asked in record {
      inside =
          subst (λ parts. first_outside (wish_for w.handlers parts w.body.items) ≡ None) (sym c.push.ensures.items)
          (part_inside_if _ w.handlers w.condition.items w.body.items c.part_of.result w.inside there);
    }
