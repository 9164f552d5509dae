use Rattle.std.proofs.Common.{◌≡◌}
use Rattle.scoop_seal.proofs.Opening.{SoFar}
use Rattle.scoop_seal.proofs.sealed_link.SealedLink.receive_sealed.Given as goal

-- this number of datagrams was taken and refused, and nothing else has changed
abbrev pub invariant-loop : goal.invariant-loop
invariant-loop g l = record {
  so_far : SoFar l.fn.key (g.L.Link.told l.initial.self.inner) (g.L.Link.told l.self.inner) l.initial.self.refused l.self.refused l.counter;
  key : l.self.key ≡ l.initial.self.key;
  faults : l.self.faults ≡ l.initial.self.faults;
  inner : g.L.Link.fault_count l.self.inner ≡ g.L.Link.fault_count l.initial.self.inner;
}
