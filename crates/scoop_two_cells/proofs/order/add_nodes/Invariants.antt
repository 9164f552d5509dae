-- The traffic of the nodes so far.
use Rattle.std.proofs.Common.{◌≡◌, ◌++◌, map, take}
use Rattle.scoop_two_cells.specs.Orders.{node_traffic}
use Rattle.scoop_two_cells.proofs.order.add_nodes.Given as goal

abbrev pub invariant-loop-history : goal.invariant-loop-history
invariant-loop-history l = l.parties.items ≡ l.initial.parties.items ++ map (λ h. node_traffic h.items) (take l.history-index l.histories)
