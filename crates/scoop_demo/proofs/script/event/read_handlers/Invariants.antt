use Rattle.std.proofs.Common.{◌≡◌, ◌≤◌, ◌+◌, length, take}
use Rattle.scoop_client.specs.declared.handlers.TheConstants.{MAX_NAMED_HANDLERS}
use Rattle.scoop_lines.specs.Words.{words_of}
use Rattle.scoop_lines.specs.Reading.{each_of}
use Rattle.scoop_demo.specs.ScriptLine.{handler_of}
use Rattle.scoop_lines.proofs.ReadingLemmas.{joined}
use Rattle.scoop_demo.proofs.script.event.read_handlers.Given as goal

abbrev pub invariant-loop-word : goal.invariant-loop-word
invariant-loop-word l = record {
  read : each_of handler_of (words_of l.fn.line) ≡ joined (take l.count l.handlers) (each_of handler_of (words_of l.rest));
  room : l.count + length (words_of l.rest) ≤ MAX_NAMED_HANDLERS;
  size : length l.handlers ≡ MAX_NAMED_HANDLERS;
}

abbrev pub decreases-loop-word : goal.decreases-loop-word
decreases-loop-word l = length l.rest
