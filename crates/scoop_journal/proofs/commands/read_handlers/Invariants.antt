use Rattle.std.proofs.Common.{◌≡◌, ◌≤◌, ◌++◌, length, take}
use Rattle.std.specs.Prelude.{map, option_copied}
use Rattle.scoop_journal.specs.Line.{spaced, handler_word}
use Rattle.scoop_journal.specs.Reading.{following}
use Rattle.scoop_journal.proofs.commands.read_handlers.Given as goal

abbrev pub invariant-loop-rest : goal.invariant-loop-rest
invariant-loop-rest l = record {
  read : following (option_copied l.fn.rest) ≡ spaced (map handler_word (take l.count l.handlers)) ++ following (option_copied l.rest);
  room : l.count ≤ 9;
  size : length l.handlers ≡ 9;
}

abbrev pub decreases-loop-rest : goal.decreases-loop-rest
decreases-loop-rest l = length (following (option_copied l.rest))
