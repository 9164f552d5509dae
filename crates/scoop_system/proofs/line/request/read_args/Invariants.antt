use Rattle.std.proofs.Common.{◌≡◌, ◌≤◌, ◌+◌, length, take}
use Rattle.scoop_message.specs.declared.limits.TheConstants.{MAX_ARGS}
use Rattle.scoop_lines.specs.Words.{words_of}
use Rattle.scoop_system.specs.declared.line.words.Border.TheVariants.{Test}
use Rattle.scoop_system.specs.Words.{before}
use Rattle.scoop_lines.specs.Reading.{each_of}
use Rattle.scoop_system.specs.Line.{number_of}
use Rattle.scoop_lines.proofs.ReadingLemmas.{joined}
use Rattle.scoop_system.proofs.line.request.read_args.Given as goal

abbrev pub invariant-loop-word : goal.invariant-loop-word
invariant-loop-word l = record {
  read : each_of number_of (before Test (words_of l.fn.line))
      ≡ joined (take l.count l.args) (each_of number_of (before Test (words_of l.rest)));
  room : l.count + length (before Test (words_of l.rest)) ≤ MAX_ARGS;
  size : length l.args ≡ MAX_ARGS;
}

abbrev pub decreases-loop-word : goal.decreases-loop-word
decreases-loop-word l = length l.rest
