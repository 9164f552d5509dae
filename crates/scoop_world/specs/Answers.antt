-- The results of the calls on a world.
use Rattle.std.specs.Prelude.{◌≡◌, ℕ, ◌-◌, ◌^◌, ◌<◌, ◌==◌, true, false, List, length, take, slice_get, IfSome, Option, Some, None, Result, Ok, Err, IsOk}
use Rattle.scoop_message.specs.declared.name.HandlerId.{HandlerId}
use Rattle.scoop_message.specs.declared.request.Entry.{Entry}
use Rattle.scoop_client.specs.State.{ClientState, phase_of}
use Rattle.scoop_client.specs.declared.command.Command.TheVariants.{End as DoEnd}
use Rattle.scoop_client.specs.Commands.{Outcome, command, log}
use Rattle.scoop_client.specs.declared.command.Command.{Command}
use Rattle.scoop_model.specs.declared.event.Event.{Event}
use Rattle.scoop_model.specs.declared.note.WorldNote.{WorldNote}
use Rattle.scoop_model.specs.declared.error.WorldError.{WorldError}
use Rattle.scoop_model.specs.declared.error.WorldError.TheVariants.{NoSuchMessage, NoSuchParty, NothingToRun, ClientRefused, IncarnationsSpent, OutOfMemory}
use Rattle.scoop_model.specs.World.{World, Party}
use Rattle.scoop_model.specs.Step.{Stepped, step}
use Rattle.scoop_model.specs.Reach.{Leads}

-- ---- a client's command

-- the command's effect at the client
abbrev pub outcome_of : ClientState → Command → Outcome
outcome_of c x = command c x

-- the reason to refuse the command; out of memory is the last one, after all others
abbrev pub IsRefusal : Outcome → WorldError → Type 0
IsRefusal outcome NoSuchMessage = ⊥
IsRefusal outcome NoSuchParty = ⊥
IsRefusal outcome NothingToRun = ⊥
IsRefusal outcome (ClientRefused e) = outcome ≡ Err e
IsRefusal outcome IncarnationsSpent = ⊥
IsRefusal outcome OutOfMemory = IsOk outcome

-- the client takes the outcome or, refused, stays as it was
abbrev pub Commands : Outcome → Result Unit WorldError → Party → Party → Type 0
Commands outcome (Ok u) p q = (outcome ≡ Ok q.client) × (q ≡ record p { client = q.client })
Commands outcome (Err e) p q = IsRefusal outcome e × (q ≡ p)

-- why an entry for one handler, or an End for all, isn't logged
abbrev pub RefusesLog : ClientState → Option HandlerId → WorldError → Type 0
RefusesLog c None x = IsRefusal (command c DoEnd) x
RefusesLog c (Some h) x = (e : Entry) → IsRefusal (log c h e (phase_of c)) x

-- ---- a client's restart

abbrev pub IsRestartRefusal : ℕ → WorldError → Type 0
IsRestartRefusal stored NoSuchMessage = ⊥
IsRestartRefusal stored NoSuchParty = ⊥
IsRestartRefusal stored NothingToRun = ⊥
IsRestartRefusal stored (ClientRefused e) = ⊥
IsRestartRefusal stored IncarnationsSpent = (stored == 2 ^ 32 - 1) ≡ true
IsRestartRefusal stored OutOfMemory = (stored == 2 ^ 32 - 1) ≡ false

-- ---- an event

-- the reason to refuse the event; out of memory is the last one
abbrev pub IsRefused : Stepped → WorldError → Type 0
IsRefused outcome NoSuchMessage = outcome ≡ Err NoSuchMessage
IsRefused outcome NoSuchParty = outcome ≡ Err NoSuchParty
IsRefused outcome NothingToRun = outcome ≡ Err NothingToRun
IsRefused outcome (ClientRefused e) = outcome ≡ Err (ClientRefused e)
IsRefused outcome IncarnationsSpent = outcome ≡ Err IncarnationsSpent
IsRefused outcome OutOfMemory = IsOk outcome

-- the world takes the outcome or, refused, stays as it was
abbrev pub Takes : Stepped → Result WorldNote WorldError → World → World → Type 0
Takes outcome (Ok note) v w = outcome ≡ Ok (w, note)
Takes outcome (Err e) v w = IsRefused outcome e × (w ≡ v)

-- ---- a list of events

-- the events before this place lead to the world, and the event at this place is refused
pub record StopsAt (v : World) (es : List Event) (n : ℕ) (x : WorldError) (w : World) : Type 0 where
  pub within : n < length es
  pub leads : Leads v (take n es) w
  pub refused : IfSome (slice_get es n) (λ e. IsRefused (step w e) x)

-- all events lead to the world, or those before the first that is refused
abbrev pub Runs : World → List Event → Result ℕ (ℕ × WorldError) → World → Type 0
Runs v es (Ok n) w = (n ≡ length es) × Leads v es w
Runs v es (Err stop) w = StopsAt v es stop.0 stop.1 w
