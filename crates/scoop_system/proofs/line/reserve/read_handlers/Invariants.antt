use Rattle.std.proofs.Common.{◌≡◌, ◌≤◌, ◌+◌, length, take}
use Rattle.scoop_system.specs.declared.line.reserve.TheConstants.{MAX_NAMED}
use Rattle.scoop_lines.specs.Words.{words_of}
use Rattle.scoop_system.specs.declared.line.words.Border.TheVariants.{When}
use Rattle.scoop_system.specs.Words.{before}
use Rattle.scoop_lines.specs.Reading.{each_of}
use Rattle.scoop_system.specs.Line.{handler_of}
use Rattle.scoop_lines.proofs.ReadingLemmas.{joined}
use Rattle.scoop_system.proofs.line.reserve.read_handlers.Given as goal

abbrev pub invariant-loop-word : goal.invariant-loop-word
invariant-loop-word l = record {
  read : each_of (handler_of l.fn.system) (before When (words_of l.fn.line))
      ≡ joined (take l.count l.handlers) (each_of (handler_of l.fn.system) (before When (words_of l.rest)));
  room : l.count + length (before When (words_of l.rest)) ≤ MAX_NAMED;
  size : length l.handlers ≡ MAX_NAMED;
}

abbrev pub decreases-loop-word : goal.decreases-loop-word
decreases-loop-word l = length l.rest
