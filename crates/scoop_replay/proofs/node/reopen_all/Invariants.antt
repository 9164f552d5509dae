-- The handlers so far opened again, whatever words they were placed with, and kept their numbers.
use Rattle.std.proofs.Common.{◌≡◌, List, ℕ, map, take}
use Rattle.scoop_message.specs.declared.name.HandlerId.{HandlerId}
use Rattle.scoop_handler.specs.Local.{number_in}
use Rattle.scoop_weave.specs.NodeHistories.{reopened}
use Rattle.scoop_replay.proofs.node.reopen_all.Given as goal

abbrev pub invariant-loop-local : goal.invariant-loop-local
invariant-loop-local l =
    ((words : HandlerId → List ℕ) → l.opened.items ≡ map (reopened words) (take l.local-index l.locals))
    × (map number_in l.opened.items ≡ map number_in (take l.local-index l.locals))
