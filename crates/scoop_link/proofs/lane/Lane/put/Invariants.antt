use Rattle.std.proofs.Common.{◌≡◌, ◌≤◌}
use Rattle.std.specs.VecDeque.{deque_len, deque_capacity}
use Rattle.std.specs.Prelude.{take, replicate, ◌++◌}
use Rattle.scoop_link.specs.Datagram.{kept}
use Rattle.scoop_link.proofs.lane.Lane.put.Given as goal

abbrev pub invariant-loop : goal.invariant-loop
invariant-loop g l = record {
  items : l.self-inside.datagrams.items ≡ take l.self-inside.room (l.initial.self-inside.datagrams.items ++ replicate l.counter (kept l.bytes));
  room : l.self-inside.room ≡ l.initial.self-inside.room;
  script : l.self-inside.script ≡ l.initial.self-inside.script;
  puts : l.self-inside.puts ≡ l.initial.self-inside.puts;
  fits : deque_len l.self-inside.datagrams ≤ l.self-inside.room;
  capacity : l.self-inside.room ≤ deque_capacity l.self-inside.datagrams;
}
