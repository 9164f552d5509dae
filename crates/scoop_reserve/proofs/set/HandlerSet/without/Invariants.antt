use Rattle.std.proofs.Common.{◌≡◌, ◌≤◌, length, take}
use Rattle.scoop_reserve.specs.Handlers.{without}
use Rattle.scoop_reserve.proofs.set.HandlerSet.without.Given as goal

abbrev pub invariant-loop-x : goal.invariant-loop-x
invariant-loop-x l = (length l.others ≤ l.x-index) × (l.others ≡ without l.handler (take l.x-index l.x-items))
