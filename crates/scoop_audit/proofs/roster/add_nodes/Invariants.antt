-- The nodes so far that have handlers were added.
use Rattle.std.proofs.Common.{◌≡◌, ◌++◌}
use Rattle.scoop_audit.proofs.Steps.{nodes_so_far}
use Rattle.scoop_audit.proofs.roster.add_nodes.Given as goal

abbrev pub invariant-loop-node : goal.invariant-loop-node
invariant-loop-node l = l.members.items ≡ l.fn.members.items ++ nodes_so_far l.system l.nodes l.node-index
