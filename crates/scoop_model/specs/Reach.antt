-- The worlds that a list of events leads to.
use Rattle.std.specs.Prelude.{◌≡◌, ℕ, ◌+◌, List, [], ◌∷◌, length, Result, Ok, Err}
use Rattle.scoop_model.specs.declared.event.Event.{Event}
use Rattle.scoop_model.specs.declared.error.WorldError.{WorldError}
use Rattle.scoop_model.specs.World.{World}
use Rattle.scoop_model.specs.Step.{Stepped, Placement, Newcomer, step, opening}
use Rattle.scoop_model.specs.Opening.{MayOpen}

-- the world after the events before the first that is refused, and how many those are, with the refusal if
-- there is one
abbrev pub Run : Type 0
Run = World × Result ℕ (ℕ × WorldError)

-- after an event it goes on from the new world, or ends where the event is refused
abbrev pub next : ℕ → World → (World → Run) → Stepped → Run
next n w go_on (Ok r) = go_on r.0
next n w go_on (Err x) = (w, Err (n, x))

-- n events were taken before
abbrev pub run_after : ℕ → World → List Event → Run
run_after n w [] = (w, Ok n)
run_after n w (e ∷ es) = next n w (λ v. run_after (n + 1) v es) (step w e)

-- the events one after another
abbrev pub run : World → List Event → Run
run w es = run_after 0 w es

abbrev pub steps : World → List Event → World
steps w es = (run w es).0

-- none of the events is refused, and they lead to this world
abbrev pub Leads : World → List Event → World → Type 0
Leads v es w = run v es ≡ (w, Ok (length es))

-- some events lead from an opening world to this one
pub record IsReached (w : World) : Type 0 where
  pub placements : List Placement
  pub newcomers : List Newcomer
  pub opens : MayOpen placements newcomers
  pub events : List Event
  pub leads : Leads (opening placements newcomers) events w
