-- A query's Log comes three times.
use Rattle.std.specs.Prelude.{◌≡◌, List, [], ◌∷◌, ◌++◌, Some, Ok, Err, map}
use Rattle.std.specs.Option.{option_map}
use Rattle.scoop_message.specs.declared.request.Answer.TheVariants.{Value}
use Rattle.scoop_handler.specs.declared.note.Note.TheVariants.{Took, Known}
use Rattle.scoop_client.specs.declared.error.ClientError.TheVariants.{Waiting}
use Rattle.scoop_client.specs.declared.phase.ClientNote.TheVariants.{Accepted, Ignored}
use Rattle.scoop_client.specs.declared.command.Command.TheVariants.{Call, Query}
use Rattle.scoop_model.specs.declared.event.Event.{Event}
use Rattle.scoop_model.specs.declared.event.Event.TheVariants.{Do, Tick, Take}
use Rattle.scoop_model.specs.declared.error.WorldError.TheVariants.{ClientRefused}
use Rattle.scoop_model.specs.World.{World, ran_at, site_of}
use Rattle.scoop_model.specs.Step.{step}
use Rattle.scoop_model.specs.Reach.{run, steps}
use Rattle.scoop_model.specs.Examples.Parties.{handler, client, counting, add, trip, trips, reserve, runs, told, told_clients, told_handlers}

abbrev pub world : World
world = counting (7 ∷ [])

abbrev pub calling : List Event
calling =
    trip 1 (7, 1) ++ reserve 7 (1 ∷ []) ∷ trips 3 ((7, 1) ∷ (7, 1) ∷ (7, 1) ∷ [])
    ++ Do (client 7) (Call (handler 1) (add 5)) ∷ trip 9 (7, 1) ++ runs 1
    ++ Do (client 7) (Query (handler 1) (add 1)) ∷ []

abbrev pub repeating : List Event
repeating = Tick (client 7) (handler 1) ∷ Take 11 ∷ runs 1 ++ Take 11 ∷ Take 11 ∷ Take 13 ∷ Take 14 ∷ []

abbrev pub after : World
after = steps world (calling ++ repeating)

-- it runs once, and the client accepts one answer
pub record RepeatedQuery : Type 0 where
  pub all_taken : (run world (calling ++ repeating)).1 ≡ Ok 28
  pub waits : step (steps world calling) (Do (client 7) (Call (handler 1) (add 1))) ≡ Err (ClientRefused (Waiting (handler 1)))
  pub at_handler : told_handlers (told (steps world calling) repeating) ≡ Took 2 ∷ Known ∷ Known ∷ []
  pub at_client : told_clients (told (steps world calling) repeating) ≡ Accepted (handler 1) 2 (Value 6) ∷ Ignored ∷ []
  pub numbers : map (λ r. r.number) (ran_at (handler 1) after) ≡ 1 ∷ 2 ∷ []
  pub words : option_map (λ s. s.core.state.words) (site_of (handler 1) after) ≡ Some (6 ∷ [])
