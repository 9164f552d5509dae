-- The failed flushes so far.
use Rattle.std.proofs.Common.{◌≡◌, ◌≤◌, []}
use Rattle.scoop_link.specs.Link.{Exchanges}
use Rattle.scoop_links.proofs.patient_link.PatientLinkLink.flush.Given as goal

abbrev pub invariant-loop : goal.invariant-loop
invariant-loop g l = Exchanges (g.L.Link.told l.initial.self.inner) (g.L.Link.told l.self.inner) [] []
    × (l.self.faults ≡ l.initial.self.faults) × (g.L.Link.fault_count l.initial.self.inner ≤ g.L.Link.fault_count l.self.inner)
