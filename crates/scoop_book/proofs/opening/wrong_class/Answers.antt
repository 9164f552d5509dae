use Rattle.std.proofs.Common.{refl, true≢false, sym, ◌∙◌, arith}
use Rattle.scoop_keeper.proofs.Keyed.{item_at}
use Rattle.scoop_book.proofs.opening.wrong_class.Goals as goal

pub returns-then-not-has_class-clause-some : goal.returns-then-not-has_class-clause-some
returns-then-not-has_class-clause-some g c =
    let ps = c.args.handlers.now in
    let i = c.loop-handed.handed-index in
    let p = c.handed-item.result in
    record {
      place = i;
      handed = p;
      there = item_at ps i p (omega arith) c.handed-item.is;
      named = refl;
      wrong = λ same. true≢false (sym (c.has_class.ensures.1 same) ∙ c.if-not-has_class.true);
      right = c.loop-handed.invariant;
    }
