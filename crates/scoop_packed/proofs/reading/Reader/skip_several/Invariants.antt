use Rattle.std.proofs.Common.{◌≡◌}
use Rattle.scoop_packed.specs.Unpacked.{logged_at, reads}
use Rattle.scoop_packed.proofs.reading.Reader.skip_several.Given as goal

abbrev pub invariant-loop : goal.invariant-loop
invariant-loop l = l.self ≡ (reads logged_at l.counter l.fn.self).1
