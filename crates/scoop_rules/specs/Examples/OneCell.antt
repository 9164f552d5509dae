-- A client sets a cell and ends its block.
use Rattle.std.specs.Prelude.{◌≡◌, List, [], ◌∷◌, ◌++◌, Some, None, Ok}
use Rattle.scoop_message.specs.declared.request.Entry.TheVariants.{Call as CallEntry, End as EndEntry}
use Rattle.scoop_message.specs.declared.request.Answer.TheVariants.{Value}
use Rattle.scoop_handler.specs.declared.note.Note.TheVariants.{Greeted, Granted, Opened, Freed, Took}
use Rattle.scoop_handler.specs.declared.ran.Ran.{Ran}
use Rattle.scoop_client.specs.declared.phase.ClientNote.TheVariants.{Welcomed, Locked, Opened as OpenedNote, Unlocked, Acknowledged}
use Rattle.scoop_client.specs.declared.command.Command.TheVariants.{Call, End}
use Rattle.scoop_model.specs.declared.event.Event.{Event}
use Rattle.scoop_model.specs.declared.event.Event.TheVariants.{Do}
use Rattle.scoop_model.specs.declared.note.WorldNote.TheVariants.{Done, Sent, Handler, Client, Began, Ran as RanNote}
use Rattle.scoop_model.specs.World.{World, ran_at, opened_at}
use Rattle.scoop_model.specs.Reach.{run, steps}
use Rattle.scoop_rules.specs.Paper.{Separate, LogOne, RunOne, RunsByRules, configuration_of, moves_in}
use Rattle.scoop_model.specs.Examples.Parties.{CellsMayOpen, handler, client, block, cells, trip, trips, reserve, set_to, runs, told}

abbrev pub world : World
world = cells (1 ∷ []) (7 ∷ [])

abbrev pub events : List Event
events =
    trip 1 (7, 1) ++ reserve 7 (1 ∷ []) ∷ trips 3 ((7, 1) ∷ (7, 1) ∷ (7, 1) ∷ [])
    ++ Do (client 7) (Call (handler 1) (set_to 5)) ∷ trip 9 (7, 1) ++ runs 1
    ++ Do (client 7) End ∷ trip 11 (7, 1) ++ runs 1

abbrev pub first : Ran
first = record { block = block 7 1 1; number = 1; entry = CallEntry (set_to 5); answer = Some (Value 5) }

abbrev pub second : Ran
second = record { block = block 7 1 1; number = 2; entry = EndEntry; answer = None }

pub record OneCell : Type 0 where
  pub opens : CellsMayOpen (1 ∷ []) (7 ∷ [])
  pub all_taken : (run world events).1 ≡ Ok 25
  pub notes :
      told world events
      ≡ Sent 1 ∷ Handler Greeted (Some 2) ∷ Client (Welcomed (handler 1)) ∷ Done
      ∷ Sent 3 ∷ Handler Granted (Some 4) ∷ Client (Locked (handler 1))
      ∷ Sent 5 ∷ Handler (Opened (block 7 1 1)) (Some 6) ∷ Client (OpenedNote (handler 1))
      ∷ Sent 7 ∷ Handler Freed (Some 8) ∷ Client (Unlocked (handler 1)) ∷ Done
      ∷ Sent 9 ∷ Handler (Took 1) (Some 10) ∷ Client (Acknowledged (handler 1) 1) ∷ Began (block 7 1 1) 1 ∷ RanNote first ∷ Done
      ∷ Sent 11 ∷ Handler (Took 2) (Some 12) ∷ Client (Acknowledged (handler 1) 2) ∷ Began (block 7 1 1) 2 ∷ RanNote second ∷ []
  pub joint : (steps world events).joint ≡ block 7 1 1 ∷ []
  pub opened : opened_at (handler 1) (steps world events) ≡ block 7 1 1 ∷ []
  pub ran : ran_at (handler 1) (steps world events) ≡ first ∷ second ∷ []
  pub moves :
      moves_in world events
      ≡ Separate (block 7 1 1) (handler 1 ∷ []) ∷ LogOne (block 7 1 1) (handler 1) (CallEntry (set_to 5)) ∷ RunOne (handler 1)
      ∷ LogOne (block 7 1 1) (handler 1) EndEntry ∷ RunOne (handler 1) ∷ []
  pub by_rules : RunsByRules world events (steps world events)
  pub queues : (configuration_of (steps world events)).queues (handler 1) ≡ []
