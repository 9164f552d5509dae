use Rattle.std.proofs.Common.{◌≡◌}
use Rattle.scoop_packed.specs.Unpacked.{long_at, reads}
use Rattle.scoop_packed.proofs.reading.Reader.skip_args.Given as goal

abbrev pub invariant-loop : goal.invariant-loop
invariant-loop l = l.self ≡ (reads long_at l.counter l.fn.self).1
