use Rattle.std.proofs.Common.{◌≡◌, ◌<◌, ◌+◌, ◌∷◌, [], ℕ, List, Some, slice_get, length, length-append, sym, ap, ◌∙◌, subst}
use Rattle.scoop_book.specs.Passes.{PassValue, fresh_pass}
use Rattle.scoop_book.proofs.Places.{each_more}
use Rattle.scoop_book.proofs.pass.fresh_passes.Goals as goal

pub loop-number-preserved : goal.loop-number-preserved
loop-number-preserved g c =
    let k = c.loop-number.number in
    let xs = c.loop-number.passes.items in
    let x = c.in_ok-pass.pass in
    record {
      count = ap length c.in_ok-push.ensures.items ∙ length-append xs (x ∷ []) ∙ ap (λ (n : ℕ). n + 1) c.loop-number.invariant.count;
      fresh = subst (λ (ys : List PassValue). (n : ℕ) → n < k + 1 → slice_get ys n ≡ Some (fresh_pass c.args.opening.now n)) (sym c.in_ok-push.ensures.items)
          (each_more (fresh_pass c.args.opening.now) xs x k c.loop-number.invariant.count c.in_ok-pass.ensures c.loop-number.invariant.fresh);
    }
