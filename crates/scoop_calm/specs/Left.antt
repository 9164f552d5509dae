-- How much is left to do in a world: for its clients, for what handlers still take, and for what they still run.
use Rattle.std.specs.Prelude.{ℕ, ◌+◌, ◌-◌, ◌^◌, nat_lt, nat_le, ◌&&◌, ◌||◌, Bool, if◌then◌else◌, List, [], ◌∷◌, length, Option, Some, None}
use Rattle.scoop_message.specs.declared.name.HandlerId.{HandlerId}
use Rattle.scoop_queue.specs.Queue.{PrivateQueue}
use Rattle.scoop_handler.specs.declared.mark.Mark.{Mark}
use Rattle.scoop_reserve.specs.declared.stage.Stage.{Stage}
use Rattle.scoop_reserve.specs.declared.stage.Stage.TheVariants.{Locking, Opening, Unlocking, GivingUp}
use Rattle.scoop_reserve.specs.State.{ReservationState}
use Rattle.scoop_client.specs.Window.{WindowState}
use Rattle.scoop_client.specs.State.{ClientState}
use Rattle.scoop_model.specs.World.{World, Site, Party}

-- the sum of what each item is worth
abbrev pub total : {A : Type 0} → (A → ℕ) → List A → ℕ
total f [] = 0
total f (x ∷ xs) = f x + total f xs

-- ---- a client

-- the entries that aren't acknowledged, and an End to come, which is two steps
abbrev pub window_work : WindowState → ℕ
window_work l = length l.unacked + (if l.ended then 0 else 2)

abbrev pub windows_work : List WindowState → ℕ
windows_work ls = total window_work ls

-- the handlers that are left in this stage, and all of them in each later one
abbrev pub stage_work : ReservationState → Stage → ℕ
stage_work r Locking = length r.left + (length r.handlers + length r.handlers)
stage_work r Opening = length r.left + length r.handlers
stage_work r Unlocking = length r.left
stage_work r GivingUp = length r.left

abbrev pub block_work : List WindowState → Option ReservationState → ℕ
block_work ls None = 0
block_work ls (Some r) = stage_work r r.stage + windows_work ls

-- a query that waits
abbrev pub wait_work : Option (HandlerId × ℕ) → ℕ
wait_work None = 0
wait_work (Some q) = 1

abbrev pub client_work : ClientState → ℕ
client_work c = length c.unwelcomed + block_work c.windows c.reservation + wait_work c.waits

-- ---- a handler

-- the numbers of entries that a mark has left
abbrev pub mark_room : Mark → ℕ
mark_room k = 2 ^ 32 - k.received

abbrev pub site_room : Site → ℕ
site_room s = total mark_room s.core.state.marks

abbrev pub queue_work : PrivateQueue → ℕ
queue_work q = length q.entries

-- an entry that is pending begins and is finished
abbrev pub runs_left : List PrivateQueue → Bool → ℕ
runs_left qs out = total queue_work qs + total queue_work qs + (if out then 0 else 1)

abbrev pub site_work : Site → ℕ
site_work s = runs_left s.core.state.queues s.core.out

-- ---- a world

abbrev pub clients_left : World → ℕ
clients_left w = total (λ (p : Party). client_work p.client) w.parties

abbrev pub room_left : World → ℕ
room_left w = total site_room w.sites

abbrev pub work_left : World → ℕ
work_left w = total site_work w.sites

-- the clients have less to do; or no more, and handlers have taken entries; or neither is more, and something has
-- begun or is finished
abbrev pub has_less : World → World → Bool
has_less v w =
    nat_lt (clients_left v) (clients_left w)
    || (nat_le (clients_left v) (clients_left w)
    && (nat_lt (room_left v) (room_left w) || (nat_le (room_left v) (room_left w) && nat_lt (work_left v) (work_left w))))
