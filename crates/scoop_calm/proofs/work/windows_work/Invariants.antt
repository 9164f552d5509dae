-- The sum of all items is the sum so far and what the items left add.
use Rattle.scoop_calm.specs.Left.{window_work}
use Rattle.scoop_calm.proofs.Sums.{Sums}
use Rattle.scoop_calm.proofs.work.windows_work.Given as goal

abbrev pub invariant-loop-window : goal.invariant-loop-window
invariant-loop-window g l = Sums window_work l.windows l.sum l.window-index
