use Rattle.std.proofs.Common.{◌≡◌, ◌≤◌, length, take}
use Rattle.scoop_reserve.specs.Handlers.{asked}
use Rattle.scoop_reserve.proofs.set.HandlerSet.asked.Given as goal

abbrev pub invariant-loop-x : goal.invariant-loop-x
invariant-loop-x l = (length l.asked ≤ l.x-index) × (l.asked ≡ asked (take l.x-index l.x-items) l.left)
