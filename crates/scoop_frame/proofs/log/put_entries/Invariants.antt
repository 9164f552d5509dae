use Rattle.std.proofs.Common.{◌≡◌, ◌≤◌, ◌+◌, ◌*◌, length, take}
use Rattle.std.specs.List.{flat_map, AllByRecursion}
use Rattle.scoop_message.specs.Range.{IsEntry}
use Rattle.scoop_frame.specs.Body.{entry_bytes}
use Rattle.scoop_frame.specs.Buffer.{overwritten}
use Rattle.scoop_frame.proofs.log.put_entries.Given as goal

abbrev pub invariant-loop-entry : goal.invariant-loop-entry
invariant-loop-entry l = record {
  bytes : l.out ≡ overwritten l.at (flat_map entry_bytes (take l.entry-index l.entries)) l.fn.out;
  end : l.end ≡ l.at + length (flat_map entry_bytes (take l.entry-index l.entries));
  limit : l.end ≤ l.at + 36 * l.entry-index;
  range : AllByRecursion IsEntry (take l.entry-index l.entries);
}
