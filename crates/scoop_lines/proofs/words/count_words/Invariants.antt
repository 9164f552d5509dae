use Rattle.std.proofs.Common.{length, ◌≤◌, ◌≡◌, ◌+◌}
use Rattle.scoop_lines.specs.Words.{words_of}
use Rattle.scoop_lines.proofs.words.count_words.Given as goal

abbrev pub invariant-loop-behind : goal.invariant-loop-behind
invariant-loop-behind l = record {
  counted : l.count + length (words_of l.rest) ≡ length (words_of l.fn.line);
  room : l.count + length l.rest ≤ length l.fn.line;
}

abbrev pub decreases-loop-behind : goal.decreases-loop-behind
decreases-loop-behind l = length l.rest
