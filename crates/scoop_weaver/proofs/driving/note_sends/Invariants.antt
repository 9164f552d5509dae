-- The sends so far are noted.
use Rattle.std.proofs.Common.{◌≡◌, ◌++◌, take}
use Rattle.scoop_weave.specs.ClientSteps.{sends_to}
use Rattle.scoop_weaver.proofs.Anew.{passed}
use Rattle.scoop_weaver.proofs.driving.note_sends.Given as goal

abbrev pub invariant-loop-handler : goal.invariant-loop-handler
invariant-loop-handler g l = l.moves.items ≡ l.initial.moves.items ++ passed (sends_to l.client (take l.handler-index l.handlers))
