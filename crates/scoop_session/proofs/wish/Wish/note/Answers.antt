use Rattle.std.proofs.Common.{rules, ◌≡◌, None, true, subst, sym}
use Rattle.scoop_driver.specs.Wishes.{first_outside, handler_of, wish_for}
use Rattle.scoop_reserve.specs.Handlers.{has}
use Rattle.scoop_session.proofs.Inside.{entry_inside_if}
use Rattle.scoop_session.proofs.wish.Wish.note.Goals as goal

pub invariant_of-self : goal.invariant_of-self
invariant_of-self c =
    let w = c.args.self.now in
    let there : has w.handlers (handler_of c.args.entry.now) ≡ true = search rules in record {
      inside =
          subst (λ body. first_outside (wish_for w.handlers w.condition.items body) ≡ None) (sym c.push.ensures.items)
          (entry_inside_if _ w.handlers w.condition.items w.body.items c.args.entry.now w.inside there);
    }
