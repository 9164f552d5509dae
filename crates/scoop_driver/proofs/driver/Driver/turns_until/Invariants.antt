use Rattle.std.proofs.Common.{◌≡◌}
use Rattle.scoop_driver.proofs.Calling.{Turning}
use Rattle.scoop_driver.proofs.driver.Driver.turns_until.Given as goal

abbrev pub invariant-loop-taken : goal.invariant-loop-taken
invariant-loop-taken g l = Turning l.taken l.initial.self.seen l.self.seen × (l.self.turns ≡ l.initial.self.turns)
