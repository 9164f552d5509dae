use Rattle.std.proofs.Common.{length, ◌≡◌}
use Rattle.scoop_lines.specs.Words.{words_of}
use Rattle.scoop_system.specs.Words.{behind}
use Rattle.scoop_system.proofs.line.words.behind.Given as goal

abbrev pub invariant-loop-word : goal.invariant-loop-word
invariant-loop-word l = behind l.border (words_of l.fn.line) ≡ behind l.border (words_of l.rest)

abbrev pub decreases-loop-word : goal.decreases-loop-word
decreases-loop-word l = length l.rest
