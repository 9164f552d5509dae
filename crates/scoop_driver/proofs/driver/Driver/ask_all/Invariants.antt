use Rattle.std.proofs.Common.{◌≡◌, ◌*◌, drop}
use Rattle.scoop_driver.proofs.Waits.{Asking}
use Rattle.scoop_driver.proofs.driver.Driver.ask_all.Given as goal

abbrev pub invariant-loop-part : goal.invariant-loop-part
invariant-loop-part g l =
    Asking (l.part-index * l.initial.self.turns) l.condition (drop l.part-index l.condition) l.initial.self.seen l.self.seen
    × (l.self.turns ≡ l.initial.self.turns)
