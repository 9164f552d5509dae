use Rattle.std.proofs.Common.{length}
use Rattle.scoop_system.proofs.reading.party.+some_fault.Given as goal

abbrev pub decreases-some_fault : goal.decreases-some_fault
decreases-some_fault l = length l.addresses.now
