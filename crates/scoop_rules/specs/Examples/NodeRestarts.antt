-- A node restarts while a query's job is out, and again after the query has run.
use Rattle.std.specs.Prelude.{◌≡◌, List, [], ◌∷◌, ◌++◌, Some, Ok, Err}
use Rattle.std.specs.Option.{option_map}
use Rattle.scoop_message.specs.declared.request.Entry.TheVariants.{Query as QueryEntry}
use Rattle.scoop_message.specs.declared.request.Answer.TheVariants.{Value}
use Rattle.scoop_queue.specs.declared.state.QueueState.TheVariants.{Open}
use Rattle.scoop_handler.specs.declared.note.Note.TheVariants.{Known}
use Rattle.scoop_handler.specs.declared.ran.Ran.{Ran}
use Rattle.scoop_client.specs.declared.phase.ClientNote.TheVariants.{Accepted}
use Rattle.scoop_client.specs.declared.command.Command.TheVariants.{Query}
use Rattle.scoop_model.specs.declared.event.Event.{Event}
use Rattle.scoop_model.specs.declared.event.Event.TheVariants.{Do, Tick, Take, Begin, Finish, NodeRestart}
use Rattle.scoop_model.specs.declared.error.WorldError.TheVariants.{NothingToRun}
use Rattle.scoop_model.specs.declared.note.WorldNote.TheVariants.{Sent, Handler, Client, Began, Reopened, Ran as RanNote}
use Rattle.scoop_model.specs.World.{World, ran_at, party_of, site_of}
use Rattle.scoop_model.specs.Step.{step}
use Rattle.scoop_model.specs.Reach.{run, steps}
use Rattle.scoop_rules.specs.Paper.{Configuration, Separate, LogOne, RunOne, Waiting, RunsByRules, configuration_of, objects_of, moves_in, replayed}
use Rattle.scoop_model.specs.Examples.Parties.{CounterMayOpen, handler, client, block, counting, add, trip, trips, reserve, told}

abbrev pub world : World
world = counting (7 ∷ [])

-- the query is received, and not yet acknowledged to its client
abbrev pub asking : List Event
asking =
    trip 1 (7, 1) ++ reserve 7 (1 ∷ []) ∷ trips 3 ((7, 1) ∷ (7, 1) ∷ (7, 1) ∷ [])
    ++ Do (client 7) (Query (handler 1) (add 1)) ∷ Tick (client 7) (handler 1) ∷ Take 9 ∷ []

abbrev pub restarting : List Event
restarting = Begin (handler 1) ∷ NodeRestart 1 ∷ []

-- the first answer, the 12th message, is lost
abbrev pub answering : List Event
answering =
    Begin (handler 1) ∷ Finish (handler 1) ∷ Tick (client 7) (handler 1) ∷ Take 11 ∷ NodeRestart 1 ∷ Take 11 ∷ Take 13 ∷ []

abbrev pub query : Ran
query = record { block = block 7 1 1; number = 1; entry = QueryEntry (add 1); answer = Some (Value 1) }

abbrev pub after : World
after = steps world (asking ++ restarting ++ answering)

abbrev pub replay : Configuration
replay = replayed (objects_of world) (moves_in world (asking ++ restarting ++ answering)) (configuration_of world)

abbrev pub empty : Waiting
empty = record { block = block 7 1 1; entries = []; state = Open }

-- the query runs once, and is answered
pub record RunsOnce : Type 0 where
  pub opens : CounterMayOpen (7 ∷ [])
  pub all_taken : (run world (asking ++ restarting ++ answering)).1 ≡ Ok 25
  pub no_job : step (steps world (asking ++ restarting)) (Finish (handler 1)) ≡ Err NothingToRun
  pub notes :
      told (steps world asking) (restarting ++ answering)
      ≡ Began (block 7 1 1) 1 ∷ Reopened ∷ Began (block 7 1 1) 1 ∷ RanNote query ∷ Sent 11 ∷ Handler Known (Some 12) ∷ Reopened
      ∷ Handler Known (Some 13) ∷ Client (Accepted (handler 1) 1 (Value 1)) ∷ []
  pub ran : ran_at (handler 1) after ≡ query ∷ []
  pub accepted : option_map (λ p. p.accepted) (party_of (client 7) after) ≡ Some ((handler 1, block 7 1 1, 1, Value 1) ∷ [])
  pub words : option_map (λ s. s.core.state.words) (site_of (handler 1) after) ≡ Some (1 ∷ [])
  pub moves :
      moves_in world (asking ++ restarting ++ answering)
      ≡ Separate (block 7 1 1) (handler 1 ∷ []) ∷ LogOne (block 7 1 1) (handler 1) (QueryEntry (add 1)) ∷ RunOne (handler 1) ∷ []
  pub by_rules : RunsByRules world (asking ++ restarting ++ answering) after
  pub queues : (configuration_of after).queues (handler 1) ≡ empty ∷ []
  pub ran_replayed : replay.ran (handler 1) ≡ query ∷ []
  pub queues_replayed : replay.queues (handler 1) ≡ empty ∷ []
