use Rattle.std.proofs.Common.{◌≡◌, ◌++◌, take}
use Rattle.std.specs.Prelude.{map}
use Rattle.scoop_journal.specs.Line.{spaced, handler_word}
use Rattle.scoop_journal.proofs.writing.put_handlers.Given as goal

abbrev pub invariant-loop-handler : goal.invariant-loop-handler
invariant-loop-handler g l = l.out.items ≡ l.fn.out.items ++ spaced (map handler_word (take l.handler-index l.handlers))
