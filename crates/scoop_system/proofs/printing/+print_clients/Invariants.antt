use Rattle.std.proofs.Common.{length}
use Rattle.scoop_system.proofs.printing.+print_clients.Given as goal

abbrev pub decreases-print_clients : goal.decreases-print_clients
decreases-print_clients g l = length l.clients.now
