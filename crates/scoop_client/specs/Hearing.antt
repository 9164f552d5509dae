-- The effect of a message on a client.
use Rattle.std.specs.Prelude.{ℕ, ◌-◌, Bool, ◌&&◌, ◌||◌, ◌==◌, nat_lt, nat_le, if◌then◌else◌, Option, Some, None}
use Rattle.scoop_message.specs.declared.name.HandlerId.{HandlerId}
use Rattle.scoop_message.specs.declared.name.ClientId.{ClientId}
use Rattle.scoop_message.specs.declared.name.Block.{Block}
use Rattle.scoop_message.specs.declared.request.Answer.{Answer as ObjectAnswer}
use Rattle.scoop_message.specs.declared.message.Message.{Message}
use Rattle.scoop_message.specs.declared.message.Message.TheVariants.{Hello, Welcome, Lock, Locked, Busy, Open, Opened, Unlock, Unlocked, Log, Logged, Answer}
use Rattle.scoop_message.specs.Message.{same_handler, same_client, same_block}
use Rattle.scoop_reserve.specs.declared.stage.Step.{Step}
use Rattle.scoop_reserve.specs.declared.stage.Step.TheVariants as step
use Rattle.scoop_reserve.specs.Handlers.{has, without}
use Rattle.scoop_reserve.specs.State.{ReservationState}
use Rattle.scoop_reserve.specs.Hearing.{is_open, is_gone}
use Rattle.scoop_reserve.specs.Hearing as reservation
use Rattle.scoop_client.specs.declared.phase.ClientNote.{ClientNote}
use Rattle.scoop_client.specs.declared.phase.ClientNote.TheVariants.{Welcomed, Locked as LockedNote, Busy as BusyNote, Opened as OpenedNote}
use Rattle.scoop_client.specs.declared.phase.ClientNote.TheVariants.{Unlocked as UnlockedNote, Acknowledged, Accepted, Ignored}
use Rattle.scoop_client.specs.Window.{WindowState, logged, acknowledged, window_of, at_window, all_over}
use Rattle.scoop_client.specs.State.{ClientState, with_unwelcomed, with_reservation, with_windows, idle}

abbrev pub Notice : Type 0
Notice = ClientState × ClientNote

-- a message that the table doesn't name changes nothing
abbrev pub ignored : ClientState → Notice
ignored c = (c, Ignored)

-- a handler that hasn't welcomed the client yet
abbrev pub hear_welcome : ClientState → HandlerId → Notice
hear_welcome c h = if has c.unwelcomed h then (with_unwelcomed c (without h c.unwelcomed), Welcomed h) else ignored c

-- a block that was given up is over once it is unlocked at each handler that was asked
abbrev pub stepped : ClientState → ReservationState → ClientState
stepped c r = if is_gone r then idle c else with_reservation c r

-- locking, opening and unlocking are the reservation's; a message that it doesn't await changes nothing
abbrev pub after_step : ClientState → ReservationState → Step → Notice
after_step c r (step.Locked h) = (stepped c r, LockedNote h)
after_step c r (step.Busy h) = (stepped c r, BusyNote h)
after_step c r (step.Opened h) = (stepped c r, OpenedNote h)
after_step c r (step.Unlocked h) = (stepped c r, UnlockedNote h)
after_step c r step.Ignored = ignored c

abbrev pub hear_step : ClientState → Message → Option ReservationState → Notice
hear_step c m None = ignored c
hear_step c m (Some r) = after_step c (reservation.heard r m).0 (reservation.heard r m).1

-- a block is over once every End is acknowledged
abbrev pub settled : ClientState → ClientState
settled c = if all_over c.windows then idle c else c

-- a count never acknowledges a waiting query
abbrev pub up_to : HandlerId → ℕ → Option (HandlerId × ℕ) → ℕ
up_to h n None = n
up_to h n (Some w) = if same_handler w.0 h && nat_le w.1 n then w.1 - 1 else n

abbrev pub hear_count : ClientState → HandlerId → ℕ → ℕ → Option WindowState → Notice
hear_count c h n k None = ignored c
hear_count c h n k (Some l) =
    if nat_lt (logged l) n || nat_le k l.acked then ignored c
    else (settled (with_windows c (at_window h (acknowledged k) c.windows) c.waits), Acknowledged h k)

-- the block is the client's, and all its handlers are opened
abbrev pub is_open_block : Block → ReservationState → Bool
is_open_block b r = same_block b r.block && is_open r

abbrev pub hear_logged : ClientState → HandlerId → Block → ℕ → Option ReservationState → Notice
hear_logged c h b n None = ignored c
hear_logged c h b n (Some r) =
    if is_open_block b r then hear_count c h n (up_to h n c.waits) (window_of h c.windows) else ignored c

-- the answer to the waiting query
abbrev pub hear_answer_to : ClientState → HandlerId → ℕ → ObjectAnswer → Option (HandlerId × ℕ) → Notice
hear_answer_to c h n a None = ignored c
hear_answer_to c h n a (Some w) =
    if same_handler w.0 h && w.1 == n then (with_windows c (at_window h (acknowledged n) c.windows) None, Accepted h n a)
    else ignored c

abbrev pub hear_answer : ClientState → HandlerId → Block → ℕ → ObjectAnswer → Option ReservationState → Notice
hear_answer c h b n a None = ignored c
hear_answer c h b n a (Some r) = if is_open_block b r then hear_answer_to c h n a c.waits else ignored c

abbrev pub is_own : ClientState → ClientId → ℕ → Bool
is_own c x inc = same_client x c.id && inc == c.inc

abbrev pub heard : ClientState → Message → Notice
heard c (Hello h x inc) = ignored c
heard c (Welcome h x inc) = if is_own c x inc then hear_welcome c h else ignored c
heard c (Lock h b) = ignored c
heard c (Locked h b) = hear_step c (Locked h b) c.reservation
heard c (Busy h b) = hear_step c (Busy h b) c.reservation
heard c (Open h b) = ignored c
heard c (Opened h b) = hear_step c (Opened h b) c.reservation
heard c (Unlock h b) = ignored c
heard c (Unlocked h b) = hear_step c (Unlocked h b) c.reservation
heard c (Log h b n es) = ignored c
heard c (Logged h b n) = hear_logged c h b n c.reservation
heard c (Answer h b n a) = hear_answer c h b n a c.reservation
