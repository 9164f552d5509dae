-- The traffic of the clients so far.
use Rattle.std.proofs.Common.{◌≡◌, ◌++◌, map, take}
use Rattle.scoop_two_cells.specs.Orders.{client_traffic}
use Rattle.scoop_two_cells.proofs.order.add_painters.Given as goal

abbrev pub invariant-loop-painter : goal.invariant-loop-painter
invariant-loop-painter g l =
    l.parties.items ≡ l.initial.parties.items
    ++ map (λ p. client_traffic p.player.number p.player.inc p.player.waits p.player.driver.diary.steps) (take l.painter-index l.painters)
