use Rattle.std.proofs.Common.{◌≡◌, ◌+◌, ◌*◌, drop, length, map, take}
use Rattle.scoop_driver.specs.Wishes.{queries}
use Rattle.scoop_driver.proofs.Waits.{Logging}
use Rattle.scoop_driver.proofs.driver.Driver.log_all.Given as goal

abbrev pub invariant-loop-entry : goal.invariant-loop-entry
invariant-loop-entry g l =
    Logging (take l.kept l.answers) (l.entry-index * l.initial.self.turns) (map g.E.AsEntry.entry l.body)
    (map g.E.AsEntry.entry (drop l.entry-index l.body)) l.initial.self.seen l.self.seen
    × (l.self.turns ≡ l.initial.self.turns)
    × (l.kept + queries (map g.E.AsEntry.entry (drop l.entry-index l.body)) ≡ queries (map g.E.AsEntry.entry l.body))
    × (length l.answers ≡ length l.initial.answers)
