use Rattle.std.proofs.Common.{length, ◌≤◌, ◌≡◌}
use Rattle.scoop_lines.specs.Words.{words_of}
use Rattle.scoop_lines.proofs.words.skip_spaces.Given as goal

abbrev pub invariant-loop-line : goal.invariant-loop-line
invariant-loop-line l = record {
  same : words_of l.line ≡ words_of l.initial.line;
  shorter : length l.line ≤ length l.initial.line;
}

abbrev pub decreases-loop-line : goal.decreases-loop-line
decreases-loop-line l = length l.line
