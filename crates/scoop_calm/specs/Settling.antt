-- The events by which a world settles, and a world that has settled.
use Rattle.std.specs.Prelude.{◌≡◌, ℕ, false, List, [], ◌∷◌, Some, None, Ok}
use Rattle.std.specs.List.{AllByRecursion}
use Rattle.scoop_message.specs.declared.name.Block.{Block}
use Rattle.scoop_message.specs.declared.name.ClientId.{ClientId}
use Rattle.scoop_message.specs.declared.name.HandlerId.{HandlerId}
use Rattle.scoop_handler.specs.declared.note.Note.{Note}
use Rattle.scoop_handler.specs.declared.ran.Ran.{Ran}
use Rattle.scoop_client.specs.declared.phase.ClientNote.{ClientNote}
use Rattle.scoop_client.specs.declared.phase.Phase.TheVariants.{Idle}
use Rattle.scoop_client.specs.State.{phase_of}
use Rattle.scoop_client.specs.declared.command.Command.TheVariants.{End}
use Rattle.scoop_model.specs.declared.event.Event.{Event}
use Rattle.scoop_model.specs.declared.event.Event.TheVariants.{Do, Tick, Take, Begin, Finish}
use Rattle.scoop_model.specs.declared.note.WorldNote.TheVariants as note
use Rattle.scoop_model.specs.World.{World, Site, Party}
use Rattle.scoop_model.specs.Step.{step}

-- ---- events

-- Events that lead from one world to another, none of which is refused. Jobs go out and are finished, and clients end
-- their blocks. A message that a client sends is taken at once, and so is the reply. The network loses and repeats no
-- message, no old message is taken, and no party restarts.
pub data Settles : World → List Event → World → Type 0 where
  stays : (w : World) → Settles w [] w
  begins : (w v u : World) (es : List Event) (h : HandlerId) (b : Block) (n : ℕ) → step w (Begin h) ≡ Ok (v, note.Began b n) → Settles v es u
      → Settles w (Begin h ∷ es) u
  finishes : (w v u : World) (es : List Event) (h : HandlerId) (r : Ran) → step w (Finish h) ≡ Ok (v, note.Ran r) → Settles v es u → Settles w (Finish h ∷ es) u
  ends : (w v u : World) (es : List Event) (c : ClientId) → step w (Do c End) ≡ Ok (v, note.Done) → Settles v es u → Settles w (Do c End ∷ es) u
  asks : (w x y v u : World) (es : List Event) (c : ClientId) (h : HandlerId) (i j : ℕ) (told : Note) (heard : ClientNote)
      → step w (Tick c h) ≡ Ok (x, note.Sent i) → step x (Take i) ≡ Ok (y, note.Handler told (Some j)) → step y (Take j) ≡ Ok (v, note.Client heard)
      → Settles v es u → Settles w (Tick c h ∷ Take i ∷ Take j ∷ es) u

-- ---- calm worlds

-- the client has no block, and every handler has welcomed it
pub record IsIdle (p : Party) : Type 0 where
  pub idle : phase_of p.client ≡ Idle

-- the handler's lock is free, it has no private queue, and no job is out
pub record IsFree (s : Site) : Type 0 where
  pub holder : s.core.state.holder ≡ None
  pub queues : s.core.state.queues ≡ []
  pub here : s.core.out ≡ false

pub record Calm (w : World) : Type 0 where
  pub sites : AllByRecursion IsFree w.sites
  pub parties : AllByRecursion IsIdle w.parties
