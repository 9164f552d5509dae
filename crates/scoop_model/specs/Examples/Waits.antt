-- A handler waits where its first private queue is empty and not ended, whatever the next one holds.
use Rattle.std.specs.Prelude.{◌≡◌, ℕ, zero, suc, ◌+◌, List, [], ◌∷◌, ◌++◌, Ok, Err, map}
use Rattle.scoop_message.specs.declared.name.Block.{Block}
use Rattle.scoop_handler.specs.declared.ran.Ran.{Ran}
use Rattle.scoop_handler.specs.declared.note.Note.TheVariants.{Dropped}
use Rattle.scoop_handler.specs.declared.note.Reason.TheVariants.{PendingFull}
use Rattle.scoop_client.specs.declared.command.Command.TheVariants.{Call, End}
use Rattle.scoop_model.specs.declared.event.Event.{Event}
use Rattle.scoop_model.specs.declared.event.Event.TheVariants.{Do, Tick, Take, Begin}
use Rattle.scoop_model.specs.declared.error.WorldError.TheVariants.{NothingToRun}
use Rattle.scoop_model.specs.World.{World, ran_at}
use Rattle.scoop_model.specs.Step.{step}
use Rattle.scoop_model.specs.Reach.{run, steps}
use Rattle.scoop_model.specs.Examples.Parties.{handler, client, block, cells, trip, trips, reserve, set_to, runs, told, told_handlers}

abbrev pub opening_both : List Event
opening_both =
    trips 1 ((7, 1) ∷ (8, 1) ∷ []) ++ reserve 7 (1 ∷ []) ∷ trips 5 ((7, 1) ∷ (7, 1) ∷ (7, 1) ∷ [])
    ++ reserve 8 (1 ∷ []) ∷ trips 11 ((8, 1) ∷ (8, 1) ∷ (8, 1) ∷ [])

-- so many calls, the first of which is sent as the i-th message
abbrev pub calls : ℕ → ℕ → List Event
calls zero i = []
calls (suc n) i = Do (client 8) (Call (handler 1) (set_to i)) ∷ trip i (8, 1) ++ calls n (i + 2)

abbrev pub full : World
full = steps (cells (1 ∷ []) (7 ∷ 8 ∷ [])) (opening_both ++ calls 64 17)

abbrev pub one_more : List Event
one_more = Do (client 8) (Call (handler 1) (set_to 5)) ∷ Tick (client 8) (handler 1) ∷ Take 145 ∷ []

abbrev pub ended : World
ended = steps full (Do (client 7) End ∷ trip 145 (7, 1))

abbrev pub place_of : Ran → Block × ℕ
place_of r = (r.block, r.number)

pub record WaitsForTheFirst : Type 0 where
  pub all_taken : (run (cells (1 ∷ []) (7 ∷ 8 ∷ [])) (opening_both ++ calls 64 17)).1 ≡ Ok 282
  pub waits : step full (Begin (handler 1)) ≡ Err NothingToRun
  pub no_room : told_handlers (told full one_more) ≡ Dropped PendingFull ∷ []
  pub goes_on : map place_of (ran_at (handler 1) (steps ended (runs 1 ++ runs 1 ++ runs 1))) ≡ (block 7 1 1, 1) ∷ (block 8 1 1, 1) ∷ (block 8 1 1, 2) ∷ []
