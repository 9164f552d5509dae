-- A client restarts in the middle of a block.
use Rattle.std.specs.Prelude.{◌≡◌, List, [], ◌∷◌, ◌++◌, Some, None, Ok, Err}
use Rattle.scoop_message.specs.declared.request.Entry.TheVariants.{Call as CallEntry}
use Rattle.scoop_message.specs.declared.request.Answer.TheVariants.{Value}
use Rattle.scoop_queue.specs.declared.state.QueueState.TheVariants.{Cut}
use Rattle.scoop_handler.specs.declared.note.Note.TheVariants.{Greeted, Opened, Dropped}
use Rattle.scoop_handler.specs.declared.note.Reason.TheVariants.{Stale}
use Rattle.scoop_handler.specs.declared.ran.Ran.{Ran}
use Rattle.scoop_client.specs.declared.phase.ClientNote.TheVariants.{Welcomed}
use Rattle.scoop_client.specs.declared.command.Command.TheVariants.{Call}
use Rattle.scoop_model.specs.declared.event.Event.{Event}
use Rattle.scoop_model.specs.declared.event.Event.TheVariants.{Do, Tick, Take, Begin, ClientRestart}
use Rattle.scoop_model.specs.declared.error.WorldError.TheVariants.{NothingToRun}
use Rattle.scoop_model.specs.declared.note.WorldNote.TheVariants.{Sent, Handler, Client, Restarted}
use Rattle.scoop_model.specs.World.{World, opened_at, ran_at}
use Rattle.scoop_model.specs.Step.{step}
use Rattle.scoop_model.specs.Reach.{run, steps}
use Rattle.scoop_rules.specs.Paper.{Configuration, Separate, LogOne, RunOne, Restart, CutTo, Waiting, RunsByRules, configuration_of, objects_of, moves_in}
use Rattle.scoop_rules.specs.Paper.{replayed}
use Rattle.scoop_model.specs.Examples.Parties.{CellsMayOpen, handler, client, block, cells, trip, trips, reserve, set_to, runs, told}

-- ---- between the openings at two handlers

abbrev pub two_cells : World
two_cells = cells (1 ∷ 2 ∷ []) (7 ∷ [])

-- both are locked, and both Opens are on their way
abbrev pub opening_both : List Event
opening_both =
    trips 1 ((7, 1) ∷ (7, 2) ∷ []) ++ reserve 7 (1 ∷ 2 ∷ []) ∷ trips 5 ((7, 1) ∷ (7, 2) ∷ [])
    ++ Tick (client 7) (handler 1) ∷ Tick (client 7) (handler 2) ∷ []

abbrev pub restarting : List Event
restarting = ClientRestart (client 7) ∷ trip 11 (7, 1) ++ Take 10 ∷ Take 9 ∷ trip 14 (7, 2)

abbrev pub half_opened : World
half_opened = steps two_cells (opening_both ++ restarting)

abbrev pub half_replayed : Configuration
half_replayed = replayed (objects_of two_cells) (moves_in two_cells (opening_both ++ restarting)) (configuration_of two_cells)

-- the block opens at one of its handlers alone
pub record OpensAtOne : Type 0 where
  pub opens : CellsMayOpen (1 ∷ 2 ∷ []) (7 ∷ [])
  pub notes :
      told (steps two_cells opening_both) restarting
      ≡ Restarted 2 ∷ Sent 11 ∷ Handler Greeted (Some 12) ∷ Client (Welcomed (handler 1)) ∷ Handler (Opened (block 7 1 1)) (Some 13)
      ∷ Handler (Dropped Stale) None ∷ Sent 14 ∷ Handler Greeted (Some 15) ∷ Client (Welcomed (handler 2)) ∷ []
  pub joint : half_opened.joint ≡ block 7 1 1 ∷ []
  pub first : opened_at (handler 1) half_opened ≡ []
  pub second : opened_at (handler 2) half_opened ≡ block 7 1 1 ∷ []
  pub first_ran : ran_at (handler 1) half_opened ≡ []
  pub second_ran : ran_at (handler 2) half_opened ≡ []
  pub moves :
      moves_in two_cells (opening_both ++ restarting)
      ≡ Restart (client 7) ∷ Separate (block 7 1 1) (handler 1 ∷ handler 2 ∷ []) ∷ CutTo (block 7 1 1) (handler 1) 0 ∷ CutTo (block 7 1 1) (handler 2) 0 ∷ []
  pub by_rules : RunsByRules two_cells (opening_both ++ restarting) half_opened
  pub first_queues : (configuration_of half_opened).queues (handler 1) ≡ []
  pub second_queues : (configuration_of half_opened).queues (handler 2) ≡ []
  pub first_replayed : half_replayed.queues (handler 1) ≡ []
  pub second_replayed : half_replayed.queues (handler 2) ≡ []

-- ---- with two calls received that have not run

abbrev pub one_cell : World
one_cell = cells (1 ∷ []) (7 ∷ [])

-- the third call's Log is the 13th message, which hasn't come
abbrev pub calling : List Event
calling =
    trip 1 (7, 1) ++ reserve 7 (1 ∷ []) ∷ trips 3 ((7, 1) ∷ (7, 1) ∷ (7, 1) ∷ [])
    ++ Do (client 7) (Call (handler 1) (set_to 5)) ∷ trip 9 (7, 1)
    ++ Do (client 7) (Call (handler 1) (set_to 6)) ∷ trip 11 (7, 1)
    ++ Do (client 7) (Call (handler 1) (set_to 7)) ∷ Tick (client 7) (handler 1) ∷ []

abbrev pub greeting_again : List Event
greeting_again = ClientRestart (client 7) ∷ trip 14 (7, 1)

abbrev pub cut_queue : Waiting
cut_queue = record { block = block 7 1 1; entries = CallEntry (set_to 5) ∷ CallEntry (set_to 6) ∷ []; state = Cut }

abbrev pub is_cut : World
is_cut = steps one_cell (calling ++ greeting_again)

abbrev pub has_run : World
has_run = steps is_cut (runs 1 ++ runs 1)

abbrev pub both_ran : List Ran
both_ran =
    record { block = block 7 1 1; number = 1; entry = CallEntry (set_to 5); answer = Some (Value 5) }
    ∷ record { block = block 7 1 1; number = 2; entry = CallEntry (set_to 6); answer = Some (Value 6) } ∷ []

abbrev pub all_events : List Event
all_events = calling ++ greeting_again ++ runs 1 ++ runs 1

abbrev pub all_replayed : Configuration
all_replayed = replayed (objects_of one_cell) (moves_in one_cell all_events) (configuration_of one_cell)

-- the received entries still run, and no others
pub record RunsWhatCame : Type 0 where
  pub opens : CellsMayOpen (1 ∷ []) (7 ∷ [])
  pub all_taken : (run one_cell all_events).1 ≡ Ok 31
  pub queues : (configuration_of is_cut).queues (handler 1) ≡ cut_queue ∷ []
  pub replays : (replayed (objects_of one_cell) (moves_in one_cell (calling ++ greeting_again)) (configuration_of one_cell)).queues (handler 1) ≡ cut_queue ∷ []
  pub ran : ran_at (handler 1) has_run ≡ both_ran
  pub nothing_more : step has_run (Begin (handler 1)) ≡ Err NothingToRun
  pub too_late : told has_run (Take 13 ∷ []) ≡ Handler (Dropped Stale) None ∷ []
  pub moves :
      moves_in one_cell all_events
      ≡ Separate (block 7 1 1) (handler 1 ∷ [])
      ∷ LogOne (block 7 1 1) (handler 1) (CallEntry (set_to 5)) ∷ LogOne (block 7 1 1) (handler 1) (CallEntry (set_to 6))
      ∷ LogOne (block 7 1 1) (handler 1) (CallEntry (set_to 7))
      ∷ Restart (client 7) ∷ CutTo (block 7 1 1) (handler 1) 2 ∷ RunOne (handler 1) ∷ RunOne (handler 1) ∷ []
  pub gone : (configuration_of has_run).queues (handler 1) ≡ []
  pub by_rules : RunsByRules one_cell all_events (steps one_cell all_events)
  pub gone_replayed : all_replayed.queues (handler 1) ≡ []
  pub ran_replayed : all_replayed.ran (handler 1) ≡ both_ran
