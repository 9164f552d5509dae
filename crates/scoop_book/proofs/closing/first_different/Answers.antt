use Rattle.std.proofs.Common.{true≢false, sym, ◌∙◌}
use Rattle.scoop_book.specs.Closing.{Agrees}
use Rattle.scoop_book.proofs.Alls.{all_more, all_taken}
use Rattle.scoop_book.proofs.closing.first_different.Goals as goal

pub loop-pass-preserved : goal.loop-pass-preserved
loop-pass-preserved g c = all_more (Agrees c.args.opening.now c.args.history.now.entries) _ _ _ c.loop-pass-test.true c.pass-item.is
    (c.agrees.ensures.0 c.if-not-agrees.false) c.loop-pass.invariant

pub returns-clause-none : goal.returns-clause-none
returns-clause-none g c = all_taken (Agrees c.args.opening.now c.args.history.now.entries) _ _ c.loop-pass-test.false c.loop-pass.invariant

pub returns-then-not-agrees-clause-some : goal.returns-then-not-agrees-clause-some
returns-then-not-agrees-clause-some g c = (
  c.loop-pass.pass-index,
  c.pass-item.result,
  c.loop-pass-test.true,
  sym c.pass-item.is,
  (sym c.number.ensures, λ agrees. true≢false (sym (c.agrees.ensures.1 agrees) ∙ c.if-not-agrees.true)),
)
