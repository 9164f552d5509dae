use Rattle.std.proofs.Common.{◌≡◌, ◌++◌, take, drop, map}
use Rattle.scoop_client.specs.Window.{with_end}
use Rattle.scoop_client.proofs.windows.end_all.Given as goal

abbrev pub invariant-loop-window : goal.invariant-loop-window
invariant-loop-window g l = l.windows ≡ map with_end (take l.window-index l.fn.windows) ++ drop l.window-index l.fn.windows
