use Rattle.std.proofs.Common.{◌≡◌, ◌+◌, ◌≤◌, ◌++◌, length, take}
use Rattle.std.specs.VecDeque.{deque_len, deque_capacity}
use Rattle.scoop_queue.proofs.pending.extend.Given as goal

abbrev pub invariant-loop-entry : goal.invariant-loop-entry
invariant-loop-entry g l = record {
  items : l.pending.items ≡ l.fn.pending.items ++ take l.entry-index l.entries;
  room : deque_len l.pending + length l.entries ≤ deque_capacity l.pending + l.entry-index;
}
