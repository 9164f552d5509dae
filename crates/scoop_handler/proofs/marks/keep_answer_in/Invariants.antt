use Rattle.std.proofs.Common.{◌≡◌, map, take, drop, ◌++◌}
use Rattle.scoop_handler.specs.Running.{mark_after}
use Rattle.scoop_handler.proofs.marks.keep_answer_in.Given as goal

-- the marks before the index have changed
abbrev pub invariant-loop-k : goal.invariant-loop-k
invariant-loop-k g l = l.k-items ≡ map (mark_after l.ran) (take l.k-index l.initial.k-items) ++ drop l.k-index l.initial.k-items
