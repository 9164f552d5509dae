use Rattle.std.proofs.Common.{◌≡◌, take, map}
use Rattle.scoop_client.specs.Window.{fresh_window}
use Rattle.scoop_client.proofs.windows.fresh_windows.Given as goal

abbrev pub invariant-loop-handler : goal.invariant-loop-handler
invariant-loop-handler g l = l.windows.items ≡ map fresh_window (take l.handler-index l.handlers)
