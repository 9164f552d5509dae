use Rattle.std.proofs.Common.{◌≡◌, drop, find}
use Rattle.std.specs.Option.{option_map}
use Rattle.scoop_client.specs.Window.{WindowState, is_lowest_full, lowest_full}
use Rattle.scoop_client.proofs.windows.lowest_full.Given as goal

abbrev pub invariant-loop-window : goal.invariant-loop-window
invariant-loop-window g l = option_map (λ (x : WindowState). x.handler) (find (is_lowest_full l.windows) (drop l.window-index l.windows))
    ≡ lowest_full l.windows
