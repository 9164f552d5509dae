use Rattle.std.proofs.Common.{length}
use Rattle.scoop_system.proofs.printing.+print_addresses.Given as goal

abbrev pub decreases-print_addresses : goal.decreases-print_addresses
decreases-print_addresses g l = length l.addresses.now
