use Rattle.std.proofs.Common.{ℕ, ◌≤◌, ◌-◌}
use Rattle.scoop_journal.proofs.file.read_front.Given as goal

abbrev pub invariant-loop-len : goal.invariant-loop-len
invariant-loop-len l = l.len ≤ 64

abbrev pub decreases-loop-len : goal.decreases-loop-len
decreases-loop-len l = 64 - l.len
