-- A client joins, reserves a cell and ends its block: what is left after each step.
use Rattle.std.specs.Prelude.{◌≡◌, ℕ, List, [], ◌∷◌}
use Rattle.scoop_client.specs.declared.command.Command.TheVariants.{End}
use Rattle.scoop_model.specs.declared.event.Event.{Event}
use Rattle.scoop_model.specs.declared.event.Event.TheVariants.{Do, Take, Begin, Finish}
use Rattle.scoop_model.specs.World.{World}
use Rattle.scoop_model.specs.Reach.{steps}
use Rattle.scoop_model.specs.Examples.Parties.{handler, client, cells, trip, reserve}
use Rattle.scoop_calm.specs.Bound.{left}

-- the number left at first, and after each of these lists of events
abbrev pub counted : World → List (List Event) → List ℕ
counted w [] = left w ∷ []
counted w (es ∷ more) = left w ∷ counted (steps w es) more

abbrev pub world : World
world = cells (1 ∷ []) (7 ∷ [])

-- it greets; it reserves; it locks, opens and unlocks; it ends its block; its End is received, begins and is finished
abbrev pub a_block : List (List Event)
a_block =
    trip 1 (7, 1) ∷ (reserve 7 (1 ∷ []) ∷ []) ∷ trip 3 (7, 1) ∷ trip 5 (7, 1) ∷ trip 7 (7, 1) ∷ (Do (client 7) End ∷ []) ∷ trip 9 (7, 1)
    ∷ (Begin (handler 1) ∷ []) ∷ (Finish (handler 1) ∷ []) ∷ []

-- old messages come again
abbrev pub repeated : List (List Event)
repeated = trip 1 (7, 1) ∷ (Take 1 ∷ Take 2 ∷ []) ∷ (reserve 7 (1 ∷ []) ∷ []) ∷ trip 4 (7, 1) ∷ (Take 4 ∷ Take 5 ∷ Take 1 ∷ []) ∷ []

pub record Counted : Type 0 where
  pub block : counted world a_block ≡ 4 ∷ 0 ∷ 11 ∷ 9 ∷ 7 ∷ 5 ∷ 4 ∷ 2 ∷ 1 ∷ 0 ∷ []
  pub again : counted world repeated ≡ 4 ∷ 0 ∷ 0 ∷ 11 ∷ 9 ∷ 9 ∷ []
