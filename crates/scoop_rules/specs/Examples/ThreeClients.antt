-- Three clients reserve two of three cells each, in a circle.
use Rattle.std.specs.Prelude.{◌≡◌, ℕ, List, [], ◌∷◌, ◌++◌, Ok}
use Rattle.scoop_queue.specs.declared.state.QueueState.TheVariants.{Open}
use Rattle.scoop_client.specs.declared.phase.ClientNote.TheVariants.{Locked, Busy, Opened, Unlocked}
use Rattle.scoop_model.specs.declared.event.Event.{Event}
use Rattle.scoop_model.specs.World.{World, opened_at}
use Rattle.scoop_model.specs.Reach.{run, steps}
use Rattle.scoop_rules.specs.Paper.{Configuration, Separate, Waiting, RunsByRules, configuration_of, objects_of, moves_in, replayed}
use Rattle.scoop_model.specs.Examples.Parties.{CellsMayOpen, handler, block, cells, trips, reserve, told, told_clients}

abbrev pub world : World
world = cells (1 ∷ 2 ∷ 3 ∷ []) (7 ∷ 8 ∷ 9 ∷ [])

abbrev pub greetings : List Event
greetings = trips 1 ((7, 1) ∷ (7, 2) ∷ (7, 3) ∷ (8, 1) ∷ (8, 2) ∷ (8, 3) ∷ (9, 1) ∷ (9, 2) ∷ (9, 3) ∷ [])

abbrev pub blocks : List Event
blocks =
    reserve 7 (1 ∷ 2 ∷ []) ∷ reserve 8 (2 ∷ 3 ∷ []) ∷ reserve 9 (3 ∷ 1 ∷ [])
    ∷ trips 19
    ((7, 1) ∷ (8, 2) ∷ (9, 1) ∷ (7, 2) ∷ (8, 3) ∷ (8, 2) ∷ (8, 3) ∷ (8, 2) ∷ (7, 2)
    ∷ (7, 2) ∷ (7, 1) ∷ (7, 1) ∷ (9, 1) ∷ (9, 3) ∷ (8, 3) ∷ (9, 3) ∷ (9, 3) ∷ (9, 1) ∷ []
    )

abbrev pub after : World
after = steps world (greetings ++ blocks)

abbrev pub replay : Configuration
replay = replayed (objects_of world) (moves_in world (greetings ++ blocks)) (configuration_of world)

abbrev pub empty : ℕ → Waiting
empty c = record { block = block c 1 1; entries = []; state = Open }

pub record ThreeClients : Type 0 where
  pub opens : CellsMayOpen (1 ∷ 2 ∷ 3 ∷ []) (7 ∷ 8 ∷ 9 ∷ [])
  pub all_taken : (run world (greetings ++ blocks)).1 ≡ Ok 84
  pub notes :
      told_clients (told (steps world greetings) blocks)
      ≡ Locked (handler 1) ∷ Locked (handler 2) ∷ Busy (handler 1) ∷ Busy (handler 2) ∷ Locked (handler 3) ∷ Opened (handler 2)
      ∷ Opened (handler 3) ∷ Unlocked (handler 2) ∷ Locked (handler 2) ∷ Opened (handler 2) ∷ Opened (handler 1) ∷ Unlocked (handler 1)
      ∷ Locked (handler 1) ∷ Busy (handler 3) ∷ Unlocked (handler 3) ∷ Locked (handler 3) ∷ Opened (handler 3) ∷ Opened (handler 1) ∷ []
  pub joint : after.joint ≡ block 8 1 1 ∷ block 7 1 1 ∷ block 9 1 1 ∷ []
  pub first : opened_at (handler 1) after ≡ block 7 1 1 ∷ block 9 1 1 ∷ []
  pub second : opened_at (handler 2) after ≡ block 8 1 1 ∷ block 7 1 1 ∷ []
  pub third : opened_at (handler 3) after ≡ block 8 1 1 ∷ block 9 1 1 ∷ []
  pub moves :
      moves_in world (greetings ++ blocks)
      ≡ Separate (block 8 1 1) (handler 2 ∷ handler 3 ∷ []) ∷ Separate (block 7 1 1) (handler 1 ∷ handler 2 ∷ [])
      ∷ Separate (block 9 1 1) (handler 3 ∷ handler 1 ∷ []) ∷ []
  pub by_rules : RunsByRules world (greetings ++ blocks) after
  pub first_queues : (configuration_of after).queues (handler 1) ≡ empty 7 ∷ empty 9 ∷ []
  pub second_queues : (configuration_of after).queues (handler 2) ≡ empty 8 ∷ empty 7 ∷ []
  pub third_queues : (configuration_of after).queues (handler 3) ≡ empty 8 ∷ empty 9 ∷ []
  pub first_replayed : replay.queues (handler 1) ≡ empty 7 ∷ empty 9 ∷ []
  pub second_replayed : replay.queues (handler 2) ≡ empty 8 ∷ empty 7 ∷ []
  pub third_replayed : replay.queues (handler 3) ≡ empty 8 ∷ empty 9 ∷ []
