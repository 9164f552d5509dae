-- The handlers so far are new.
use Rattle.std.proofs.Common.{◌≡◌, map, take}
use Rattle.scoop_replay.specs.Node.{placed_local}
use Rattle.scoop_replay.proofs.node.new_locals.Given as goal

abbrev pub invariant-loop-place : goal.invariant-loop-place
invariant-loop-place l = l.locals.items ≡ map placed_local (take l.place-index l.placed)
