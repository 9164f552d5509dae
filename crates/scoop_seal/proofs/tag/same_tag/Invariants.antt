use Rattle.std.proofs.Common.{◌≡◌, ℕ, ◌<◌, get_or}
use Rattle.scoop_seal.proofs.tag.same_tag.Given as goal

-- no difference was seen exactly if the bytes before the index are the same
abbrev pub invariant-loop-i : goal.invariant-loop-i
invariant-loop-i l = record {
  same : l.difference ≡ 0 → (k : ℕ) → k < l.i → get_or l.left k 0 ≡ get_or l.right k 0;
  none : ((k : ℕ) → k < l.i → get_or l.left k 0 ≡ get_or l.right k 0) → l.difference ≡ 0;
}
