-- The events that grant a lock and those that open a block, over a whole list of events.
use Rattle.std.specs.Prelude.{◌≡◌, ℕ, ◌<◌, ◌≤◌, List, take, slice_get, Option, Some, None, Ok}
use Rattle.std.specs.Option.{option_map_or}
use Rattle.scoop_message.specs.declared.name.Block.{Block}
use Rattle.scoop_message.specs.declared.name.HandlerId.{HandlerId}
use Rattle.scoop_message.specs.declared.message.Message.TheVariants.{Lock, Open}
use Rattle.scoop_handler.specs.declared.note.Note.TheVariants.{Granted, Opened}
use Rattle.scoop_model.specs.declared.event.Event.{Event}
use Rattle.scoop_model.specs.declared.event.Event.TheVariants.{Take}
use Rattle.scoop_model.specs.declared.note.WorldNote.TheVariants.{Handler}
use Rattle.scoop_model.specs.World.{World, sent_at, site_of}
use Rattle.scoop_model.specs.Step.{step}
use Rattle.scoop_model.specs.Reach.{steps}

-- the world after the first k of the events
abbrev pub world_after : World → List Event → ℕ → World
world_after v es k = steps v (take k es)

-- the block that holds the handler's lock, if any
abbrev pub holder_at : HandlerId → World → Option Block
holder_at h w = option_map_or (λ s. s.core.state.holder) (site_of h w) None

-- the handler hears the block's Lock, and grants it the lock
pub record IsGrant (w : World) (e : Event) (h : HandlerId) (b : Block) : Type 0 where
  pub place : ℕ
  pub takes : e ≡ Take place
  pub asked : sent_at place w ≡ Some (Lock h b)
  pub next : World
  pub reply : Option ℕ
  pub granted : step w e ≡ Ok (next, Handler Granted reply)

-- the handler hears the block's Open, and the block opens there
pub record IsOpening (w : World) (e : Event) (h : HandlerId) (b : Block) : Type 0 where
  pub place : ℕ
  pub takes : e ≡ Take place
  pub asked : sent_at place w ≡ Some (Open h b)
  pub next : World
  pub reply : Option ℕ
  pub opened : step w e ≡ Ok (next, Handler (Opened b) reply)

-- the event after the first i grants the block the handler's lock
pub record GrantsAt (v : World) (es : List Event) (i : ℕ) (h : HandlerId) (b : Block) : Type 0 where
  pub event : Event
  pub there : slice_get es i ≡ Some event
  pub grant : IsGrant (world_after v es i) event h b

-- the event after the first j opens the block at the handler
pub record OpensAt (v : World) (es : List Event) (j : ℕ) (h : HandlerId) (b : Block) : Type 0 where
  pub event : Event
  pub there : slice_get es j ≡ Some event
  pub opening : IsOpening (world_after v es j) event h b

-- an event before has granted the block the handler's lock, and from there on the block was the holder without a break
pub record HoldsSinceGrant (v : World) (es : List Event) (j : ℕ) (h : HandlerId) (b : Block) : Type 0 where
  pub at : ℕ
  pub before : at < j
  pub granted : GrantsAt v es at h b
  pub held : (k : ℕ) → at < k → k ≤ j → holder_at h (world_after v es k) ≡ Some b
