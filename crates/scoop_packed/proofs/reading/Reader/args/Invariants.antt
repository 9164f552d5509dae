use Rattle.std.proofs.Common.{◌≡◌, length, take}
use Rattle.scoop_message.specs.declared.limits.TheConstants.{MAX_ARGS}
use Rattle.scoop_packed.specs.Unpacked.{long_at, reads}
use Rattle.scoop_packed.proofs.reading.Reader.args.Given as goal

abbrev pub invariant-loop-i : goal.invariant-loop-i
invariant-loop-i l = record {
  size : length l.numbers ≡ MAX_ARGS;
  values : take l.i l.numbers ≡ (reads long_at l.i l.fn.self).0;
  left : l.self ≡ (reads long_at l.i l.fn.self).1;
}
