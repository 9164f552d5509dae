use Rattle.std.proofs.Common.{ap, get_or, List, ℕ, arith, below_more}
use Rattle.std.proofs.lemmas.Bool.{eqb-true, eq-eqb}
use Rattle.std.proofs.lemmas.List.{ext_get_or}
use Rattle.scoop_seal.proofs.Differences.{none_before, same_from_none, none_from_same}
use Rattle.scoop_seal.proofs.tag.same_tag.Goals as goal

pub loop-i-preserved : goal.loop-i-preserved
loop-i-preserved c =
    let i = c.loop-i.i in
    let d = c.loop-i.difference in
    let a = get_or c.args.left.now i 0 in
    let b = get_or c.args.right.now i 0 in
    record {
      same = λ e. below_more _ _ (c.loop-i.invariant.same (none_before d a b e)) (same_from_none d a b e);
      none = λ all. none_from_same d a b (c.loop-i.invariant.none (λ k h. all k (omega arith))) (all i (omega arith));
    }

pub returns : goal.returns
returns c = (
  λ e. ext_get_or 0 _ _ (omega arith) (λ k h. c.loop-i.invariant.same (eqb-true c.loop-i.difference 0 e) k (omega arith)),
  λ e. eq-eqb c.loop-i.difference 0 (c.loop-i.invariant.none (λ k h. ap (λ (xs : List ℕ). get_or xs k 0) e)),
)
