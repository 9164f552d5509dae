-- The state of a client.
use Rattle.std.specs.Prelude.{◌≡◌, ℕ, ◌≤◌, Bool, if◌then◌else◌, List, [], Option, Some, None, IfSome}
use Rattle.scoop_message.specs.declared.limits.TheConstants.{MAX_ENTRIES}
use Rattle.scoop_message.specs.declared.name.HandlerId.{HandlerId}
use Rattle.scoop_message.specs.declared.name.ClientId.{ClientId}
use Rattle.scoop_message.specs.declared.name.Block.{Block}
use Rattle.scoop_reserve.specs.declared.stage.Stage.{Stage}
use Rattle.scoop_reserve.specs.declared.stage.Stage.TheVariants as stage
use Rattle.scoop_reserve.specs.Handlers.{is_empty}
use Rattle.scoop_reserve.specs.State.{ReservationState}
use Rattle.scoop_client.specs.declared.phase.Phase.{Phase}
use Rattle.scoop_client.specs.declared.phase.Phase.TheVariants.{Greeting, Idle, Locking, Opening, Running, Ending, GivingUp}
use Rattle.scoop_client.specs.Window.{WindowState, is_ended}

-- The handlers, and those that haven't welcomed the client; the last block number used. Of the client's block: the
-- reservation, a window for each reserved handler, and the waiting query, by handler and number.
pub record ClientState : Type 0 where
  pub id : ClientId
  pub inc : ℕ
  pub batch : ℕ
  pub handlers : List HandlerId
  pub unwelcomed : List HandlerId
  pub last : ℕ
  pub reservation : Option ReservationState
  pub windows : List WindowState
  pub waits : Option (HandlerId × ℕ)

abbrev pub phase_at : Stage → Bool → Phase
phase_at stage.Locking ended = Locking
phase_at stage.Opening ended = Opening
phase_at stage.Unlocking ended = if ended then Ending else Running
phase_at stage.GivingUp ended = GivingUp

abbrev pub phase_of_block : List WindowState → Option ReservationState → Phase
phase_of_block windows None = Idle
phase_of_block windows (Some r) = phase_at r.stage (is_ended windows)

abbrev pub phase_of : ClientState → Phase
phase_of c = if is_empty c.unwelcomed then phase_of_block c.windows c.reservation else Greeting

-- the client's block
abbrev pub block_of : Option ReservationState → Option Block
block_of None = None
block_of (Some r) = Some r.block

abbrev pub with_unwelcomed : ClientState → List HandlerId → ClientState
with_unwelcomed c hs = record c { unwelcomed = hs }

abbrev pub with_reservation : ClientState → ReservationState → ClientState
with_reservation c r = record c { reservation = Some r }

abbrev pub with_windows : ClientState → List WindowState → Option (HandlerId × ℕ) → ClientState
with_windows c windows waits = record c { windows = windows; waits = waits }

-- its block is over
abbrev pub idle : ClientState → ClientState
idle c = record c { reservation = None; windows = []; waits = None }

-- the name of a block of this client
abbrev pub block_named : ClientId → ℕ → ℕ → Block
block_named id inc num = record { client = id; inc = inc; num = num }

-- the client's block is the last that it began
pub record IsBegun (id : ClientId) (inc last : ℕ) (r : ReservationState) : Type 0 where
  pub block : r.block ≡ block_named id inc last
  pub some : 1 ≤ last

-- incarnations begin at 1, and a Log carries one to four entries
pub record IsClient (id : ClientId) (inc batch last : ℕ) (reservation : Option ReservationState) : Type 0 where
  pub incarnation : 1 ≤ inc
  pub some : 1 ≤ batch
  pub limit : batch ≤ MAX_ENTRIES
  pub begun : IfSome reservation (IsBegun id inc last)
