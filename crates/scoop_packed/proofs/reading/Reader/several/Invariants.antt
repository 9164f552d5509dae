use Rattle.std.proofs.Common.{◌≡◌, length, take}
use Rattle.scoop_message.specs.declared.limits.TheConstants.{MAX_ENTRIES}
use Rattle.scoop_packed.specs.Unpacked.{logged_at, reads}
use Rattle.scoop_packed.proofs.reading.Reader.several.Given as goal

abbrev pub invariant-loop-i : goal.invariant-loop-i
invariant-loop-i l = record {
  size : length l.cells ≡ MAX_ENTRIES;
  values : take l.i l.cells ≡ (reads logged_at l.i l.fn.self).0;
  left : l.self ≡ (reads logged_at l.i l.fn.self).1;
}
