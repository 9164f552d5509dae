use Rattle.std.proofs.Common.{length, ◌≤◌, ◌≡◌, ◌+◌}
use Rattle.scoop_lines.specs.Words.{words_of}
use Rattle.scoop_system.specs.Words.{before}
use Rattle.scoop_system.proofs.line.words.count_before.Given as goal

abbrev pub invariant-loop-word : goal.invariant-loop-word
invariant-loop-word l = record {
  counted : l.count + length (before l.border (words_of l.rest)) ≡ length (before l.border (words_of l.fn.line));
  room : l.count + length l.rest ≤ length l.fn.line;
}

abbrev pub decreases-loop-word : goal.decreases-loop-word
decreases-loop-word l = length l.rest
