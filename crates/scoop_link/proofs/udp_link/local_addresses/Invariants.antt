use Rattle.std.proofs.Common.{◌≡◌, length, map, take, vec_len, vec_capacity}
use Rattle.scoop_link.specs.Udp.{reached_at, reached_here}
use Rattle.scoop_link.proofs.udp_link.local_addresses.Given as goal

abbrev pub invariant-loop-party : goal.invariant-loop-party
invariant-loop-party g l = record {
  items : map reached_at l.addresses.items ≡ map reached_here (take l.party-index l.ports);
  len : vec_len l.addresses ≡ l.party-index;
  room : vec_capacity l.addresses ≡ length l.ports;
}
