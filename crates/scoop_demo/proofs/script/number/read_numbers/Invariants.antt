use Rattle.std.proofs.Common.{◌≡◌, ◌≤◌, ◌+◌, length}
use Rattle.scoop_message.specs.declared.limits.TheConstants.{MAX_WORDS}
use Rattle.scoop_lines.specs.Words.{words_of}
use Rattle.scoop_lines.specs.Reading.{each_of}
use Rattle.scoop_demo.specs.ScriptLine.{number_of}
use Rattle.scoop_lines.proofs.ReadingLemmas.{joined}
use Rattle.scoop_demo.proofs.script.number.read_numbers.Given as goal

abbrev pub invariant-loop-word : goal.invariant-loop-word
invariant-loop-word l = record {
  read : each_of number_of (words_of l.fn.line) ≡ joined l.numbers.items (each_of number_of (words_of l.rest));
  room : length l.numbers.items + length (words_of l.rest) ≤ MAX_WORDS;
}

abbrev pub decreases-loop-word : goal.decreases-loop-word
decreases-loop-word l = length l.rest
