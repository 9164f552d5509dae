-- Two clients take turns at a handler, and a third one asks for its lock in each turn and never gets it. No message is lost. A lock
-- isn't queued, so fair links alone don't let each client get on.
use Rattle.std.specs.Prelude.{◌≡◌, ℕ, zero, suc, ◌+◌, List, [], ◌∷◌, ◌++◌, length, Ok}
use Rattle.std.specs.Option.{option_map}
use Rattle.scoop_client.specs.declared.command.Command.TheVariants.{End}
use Rattle.scoop_model.specs.declared.event.Event.{Event}
use Rattle.scoop_model.specs.declared.event.Event.TheVariants.{Do}
use Rattle.scoop_model.specs.World.{World, party_of, opened_at}
use Rattle.scoop_model.specs.Reach.{run, steps}
use Rattle.scoop_model.specs.Examples.Parties.{handler, client, block, cells, trip, trips, reserve, runs}

abbrev pub world : World
world = cells (1 ∷ []) (7 ∷ 8 ∷ 9 ∷ [])

-- all reserve the handler, and client 7 gets its lock
abbrev pub reserving : List Event
reserving =
    trips 1 ((7, 1) ∷ (8, 1) ∷ (9, 1) ∷ []) ++ reserve 7 (1 ∷ []) ∷ reserve 8 (1 ∷ []) ∷ reserve 9 (1 ∷ []) ∷ trip 7 (7, 1)

-- client 9 and client b ask in vain; client a goes through its block; then b gets the lock, and a reserves the handler again
abbrev pub turn : ℕ → ℕ → ℕ → List Event
turn i a b =
    trips i ((9, 1) ∷ (b, 1) ∷ (a, 1) ∷ (a, 1) ∷ []) ++ Do (client a) End ∷ trip (i + 8) (a, 1) ++ runs 1 ++ trip (i + 10) (b, 1)
    ++ reserve a (1 ∷ []) ∷ []

-- that many turns, the first of which sends the i-th message
abbrev pub turns : ℕ → ℕ → ℕ → ℕ → List Event
turns zero i a b = []
turns (suc n) i a b = turn i a b ++ turns n (i + 12) b a

abbrev pub before : World
before = steps world reserving

abbrev pub after : World
after = steps before (turns 4 9 7 8)

-- nothing is refused, four blocks have opened, and client 9 is where it was
pub record TakenInTurns : Type 0 where
  pub all_taken : (run before (turns 4 9 7 8)).1 ≡ Ok (length (turns 4 9 7 8))
  pub opened : opened_at (handler 1) after ≡ block 7 1 1 ∷ block 8 1 1 ∷ block 7 1 2 ∷ block 8 1 2 ∷ []
  pub waits : option_map (λ p. p.client) (party_of (client 9) after) ≡ option_map (λ p. p.client) (party_of (client 9) before)
