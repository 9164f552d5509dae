-- The messages that a client owes its handlers.
use Rattle.std.specs.Prelude.{ℕ, ◌+◌, ◌==◌, if◌then◌else◌, length, Option, Some, None}
use Rattle.scoop_message.specs.declared.name.HandlerId.{HandlerId}
use Rattle.scoop_message.specs.declared.name.Block.{Block}
use Rattle.scoop_message.specs.declared.message.Message.{Message}
use Rattle.scoop_message.specs.declared.message.Message.TheVariants.{Hello, Log}
use Rattle.scoop_reserve.specs.Handlers.{has}
use Rattle.scoop_reserve.specs.State.{ReservationState}
use Rattle.scoop_reserve.specs.Hearing.{is_open}
use Rattle.scoop_reserve.specs.Due as reservation
use Rattle.scoop_client.specs.Window.{WindowState, first_entries, window_of}
use Rattle.scoop_client.specs.State.{ClientState}

-- the first entries that aren't acknowledged, with the number of the first one
abbrev pub due_log : ℕ → Block → WindowState → Option Message
due_log batch b l =
    if length l.unacked == 0 then None else Some (Log l.handler b (l.acked + 1) (first_entries batch l.unacked))

abbrev pub due_window : ℕ → Block → Option WindowState → Option Message
due_window batch b None = None
due_window batch b (Some l) = due_log batch b l

-- the reservation's message comes first, and entries are due once all handlers are opened
abbrev pub due_after : ClientState → HandlerId → ReservationState → Option Message → Option Message
due_after c h r (Some m) = Some m
due_after c h r None = if is_open r then due_window c.batch r.block (window_of h c.windows) else None

abbrev pub due_in_block : ClientState → HandlerId → Option ReservationState → Option Message
due_in_block c h None = None
due_in_block c h (Some r) = due_after c h r (reservation.due r h)

-- the one message owed to this handler now: a Hello until the handler has welcomed the client
abbrev pub due : ClientState → HandlerId → Option Message
due c h = if has c.unwelcomed h then Some (Hello h c.id c.inc) else due_in_block c h c.reservation
