-- The lasting claims of messages about greetings, locks, openings, logs and answers.
use Rattle.std.specs.Prelude.{◌≡◌, ◌⊎◌, ℕ, ◌+◌, ◌-◌, ◌≤◌, true, List, slice_get, Some, Contains}
use Rattle.std.specs.Option.{option_map_or}
use Rattle.scoop_message.specs.declared.name.Block.{Block}
use Rattle.scoop_message.specs.declared.name.ClientId.{ClientId}
use Rattle.scoop_message.specs.declared.name.HandlerId.{HandlerId}
use Rattle.scoop_message.specs.declared.request.Answer.{Answer as ObjectAnswer}
use Rattle.scoop_message.specs.declared.request.Entry.{Entry}
use Rattle.scoop_message.specs.declared.message.Message.{Message}
use Rattle.scoop_message.specs.declared.message.Message.TheVariants.{Hello, Welcome, Locked, Open, Opened, Unlock, Log, Answer}
use Rattle.scoop_handler.specs.declared.mark.Mark.{Mark}
use Rattle.scoop_handler.specs.declared.mark.Stage.TheVariants.{Shut}
use Rattle.scoop_handler.specs.Marks.{mark_of}
use Rattle.scoop_handler.specs.Rows.{IsPast}
use Rattle.scoop_reserve.specs.declared.stage.Stage.TheVariants.{GivingUp}
use Rattle.scoop_reserve.specs.Handlers.{has}
use Rattle.scoop_reserve.specs.State.{ReservationState}
use Rattle.scoop_model.specs.World.{World, Site, Party, site_of, party_of, has_block, opened_at, handlers_of, log_of, ran_at}
use Rattle.scoop_model.specs.Safe.{HasRun}

-- ---- greetings

-- the stored incarnation of a client, 0 where it isn't in the world
abbrev pub stored_of : ClientId → World → ℕ
stored_of c w = option_map_or (λ p. p.stored) (party_of c w) 0

-- no Hello is of an incarnation above the one that is stored for its client
pub record TellsStored (w : World) (m : Message) : Type 0 where
  pub stored : (h : HandlerId) (c : ClientId) (inc : ℕ) → m ≡ Hello h c inc → inc ≤ stored_of c w

-- the handler's mark of the client is of this incarnation, or of a newer one
pub record HasGreeted (w : World) (h : HandlerId) (c : ClientId) (inc : ℕ) : Type 0 where
  pub site : Site
  pub found : site_of h w ≡ Some site
  pub mark : Mark
  pub marked : mark_of c site.core.state.marks ≡ Some mark
  pub greeted : inc ≤ mark.inc

-- a client that was welcomed has greeted
pub record TellsGreeted (w : World) (m : Message) : Type 0 where
  pub greeted : (h : HandlerId) (c : ClientId) (inc : ℕ) → m ≡ Welcome h c inc → HasGreeted w h c inc

-- ---- locks

-- the handler has granted the block its lock: it told so
abbrev pub WasGranted : World → HandlerId → Block → Type 0
WasGranted w h b = Contains w.sent (Locked h b)

-- each handler that the block's reserve named has granted the block its lock
pub record WasGrantedAtAll (w : World) (b : Block) : Type 0 where
  pub handlers : List HandlerId
  pub set : handlers_of b w ≡ Some handlers
  pub granted : (h : HandlerId) → has handlers h ≡ true → WasGranted w h b

-- the mark is shut for the block, or past it
pub record IsOver (marks : List Mark) (b : Block) : Type 0 where
  pub mark : Mark
  pub marked : mark_of b.client marks ≡ Some mark
  pub over : IsPast b mark ⊎ ((mark.inc ≡ b.inc) × (mark.num ≡ b.num) × (mark.stage ≡ Shut))

-- the block holds the handler's lock, or has opened there, or is over there
pub record HoldsOpenedOrOver (w : World) (h : HandlerId) (b : Block) : Type 0 where
  pub site : Site
  pub found : site_of h w ≡ Some site
  pub is : (site.core.state.holder ≡ Some b) ⊎ ((has_block site.opened b ≡ true) ⊎ IsOver site.core.state.marks b)

-- a block that was granted the lock holds it, or has opened there, or is over there
pub record TellsHeld (w : World) (m : Message) : Type 0 where
  pub held : (h : HandlerId) (b : Block) → m ≡ Locked h b → HoldsOpenedOrOver w h b

-- a block is opened only once each of its handlers has granted it its lock
pub record TellsGranted (w : World) (m : Message) : Type 0 where
  pub granted : (h : HandlerId) (b : Block) → m ≡ Open h b → WasGrantedAtAll w b

-- ---- openings

abbrev pub HasOpened : World → HandlerId → Block → Type 0
HasOpened w h b = has_block (opened_at h w) b ≡ true

-- the block has opened at each handler that its reserve named
pub record HasOpenedAtAll (w : World) (b : Block) : Type 0 where
  pub handlers : List HandlerId
  pub set : handlers_of b w ≡ Some handlers
  pub opened : (h : HandlerId) → has handlers h ≡ true → HasOpened w h b

-- where an Opened was sent the block has opened
pub record TellsOpened (w : World) (m : Message) : Type 0 where
  pub opened : (h : HandlerId) (b : Block) → m ≡ Opened h b → HasOpened w h b

-- no Open of the block was ever sent, and its client has left it or is giving it up
pub record IsAbandoned (w : World) (b : Block) : Type 0 where
  pub unopened : (h : HandlerId) → Contains w.sent (Open h b) → ⊥
  pub given_up : (p : Party) → party_of b.client w ≡ Some p → (r : ReservationState) → p.client.reservation ≡ Some r → r.block ≡ b → r.stage ≡ GivingUp

-- a block is unlocked only once it has opened at all of its handlers, or where it was left
pub record TellsUnlocked (w : World) (m : Message) : Type 0 where
  pub unlocked : (h : HandlerId) (b : Block) → m ≡ Unlock h b → HasOpenedAtAll w b ⊎ IsAbandoned w b

-- ---- logs and answers

-- the entries are those of the log from the n-th on
pub record AreOfLog (log : List Entry) (n : ℕ) (es : List Entry) : Type 0 where
  pub from : 1 ≤ n
  pub each : (j : ℕ) (e : Entry) → slice_get es j ≡ Some e → slice_get log (n - 1 + j) ≡ Some e

-- a Log carries what was logged, from its number on, of a block that has opened at all of its handlers
pub record TellsLogged (w : World) (m : Message) : Type 0 where
  pub logged : (h : HandlerId) (b : Block) (n : ℕ) (es : List Entry) → m ≡ Log h b n es → AreOfLog (log_of b h w) n es × HasOpenedAtAll w b

-- an Answer is that of a query of this number, which has run there
pub record TellsRan (w : World) (m : Message) : Type 0 where
  pub ran : (h : HandlerId) (b : Block) (n : ℕ) (a : ObjectAnswer) → m ≡ Answer h b n a → HasRun (ran_at h w) b n a
