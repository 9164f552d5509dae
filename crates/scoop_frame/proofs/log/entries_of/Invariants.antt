use Rattle.std.proofs.Common.{◌≡◌, ◌++◌, length, take}
use Rattle.std.specs.List.{flat_map, AllByRecursion}
use Rattle.scoop_message.specs.Range.{IsEntry}
use Rattle.scoop_frame.specs.Body.{entry_bytes}
use Rattle.scoop_frame.proofs.log.entries_of.Given as goal

abbrev pub invariant-loop-i : goal.invariant-loop-i
invariant-loop-i l = record {
  room : length l.items ≡ 4;
  range : AllByRecursion IsEntry (take l.i l.items);
  read : l.bytes ≡ flat_map entry_bytes (take l.i l.items) ++ l.rest;
}
