-- A share for each handler so far.
use Rattle.std.proofs.Common.{◌≡◌, map, take}
use Rattle.scoop_model.specs.Step.{fresh_log}
use Rattle.scoop_world.specs.Kept.{logged_kept}
use Rattle.scoop_world.proofs.logs.fresh_shares.Given as goal

abbrev pub invariant-loop-handler : goal.invariant-loop-handler
invariant-loop-handler g l = map logged_kept l.shares.items ≡ map fresh_log (take l.handler-index l.handlers)
