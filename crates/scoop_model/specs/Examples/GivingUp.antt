-- A client gives a block up while another one holds a lock that it asked for.
use Rattle.std.specs.Prelude.{◌≡◌, List, [], ◌∷◌, ◌++◌, Ok, Err}
use Rattle.scoop_handler.specs.declared.note.Note.TheVariants.{Granted, Held, Freed, Opened, Dropped}
use Rattle.scoop_handler.specs.declared.note.Reason.TheVariants.{Stale}
use Rattle.scoop_client.specs.declared.error.ClientError.TheVariants.{TooLate, NoBlock}
use Rattle.scoop_client.specs.declared.command.Command.TheVariants.{GiveUp}
use Rattle.scoop_model.specs.declared.event.Event.{Event}
use Rattle.scoop_model.specs.declared.event.Event.TheVariants.{Do, Tick, Take}
use Rattle.scoop_model.specs.declared.error.WorldError.TheVariants.{ClientRefused}
use Rattle.scoop_model.specs.World.{World}
use Rattle.scoop_model.specs.Step.{step}
use Rattle.scoop_model.specs.Reach.{run, steps}
use Rattle.scoop_model.specs.Examples.Parties.{handler, client, block, cells, trip, trips, reserve, told, told_handlers}

abbrev pub world : World
world = cells (1 ∷ 2 ∷ []) (7 ∷ 8 ∷ [])

abbrev pub greetings : List Event
greetings = trips 1 ((7, 1) ∷ (7, 2) ∷ (8, 1) ∷ (8, 2) ∷ [])

-- the last Lock, the 15th message, comes late
abbrev pub locking : List Event
locking =
    reserve 8 (2 ∷ []) ∷ trip 9 (8, 2) ++ reserve 7 (1 ∷ 2 ∷ []) ∷ trips 11 ((7, 1) ∷ (7, 2) ∷ [])
    ++ Tick (client 7) (handler 2) ∷ Do (client 7) GiveUp ∷ []

abbrev pub unlocking : List Event
unlocking = trips 16 ((7, 1) ∷ (7, 2) ∷ [])

abbrev pub given_up : World
given_up = steps world (greetings ++ locking)

abbrev pub over : World
over = steps given_up unlocking

pub record GivesUp : Type 0 where
  pub all_taken : (run world (greetings ++ locking ++ unlocking ++ trips 20 ((8, 2) ∷ (8, 2) ∷ []) ++ Take 15 ∷ [])).1 ≡ Ok 38
  pub notes :
      told_handlers (told (steps world greetings) (locking ++ unlocking ++ trips 20 ((8, 2) ∷ (8, 2) ∷ []) ++ Take 15 ∷ []))
      ≡ Granted ∷ Granted ∷ Held ∷ Freed ∷ Freed ∷ Opened (block 8 1 1) ∷ Freed ∷ Dropped Stale ∷ []
  pub twice : step given_up (Do (client 7) GiveUp) ≡ Err (ClientRefused TooLate)
  pub idle : step over (Do (client 7) GiveUp) ≡ Err (ClientRefused NoBlock)
