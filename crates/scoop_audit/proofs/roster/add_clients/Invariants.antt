-- The clients so far were added.
use Rattle.std.proofs.Common.{◌≡◌, ◌++◌, map, take}
use Rattle.scoop_audit.specs.Members.{client_member}
use Rattle.scoop_audit.proofs.roster.add_clients.Given as goal

abbrev pub invariant-loop-client : goal.invariant-loop-client
invariant-loop-client l = l.members.items ≡ l.fn.members.items ++ map client_member (take l.client-index l.clients)
