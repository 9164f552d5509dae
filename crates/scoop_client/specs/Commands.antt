-- A client's commands. `DoCall`, `DoQuery` and `DoEnd` log a call, a query and an end.
use Rattle.std.specs.Prelude.{◌≡◌, ℕ, ◌+◌, ◌-◌, ◌^◌, ◌==◌, ⊤, nat_le, if◌then◌else◌, List, map, Option, Some, None, Result, Ok, Err, IsOk}
use Rattle.scoop_message.specs.declared.name.HandlerId.{HandlerId}
use Rattle.scoop_message.specs.declared.name.Block.{Block}
use Rattle.scoop_message.specs.declared.request.Entry.{Entry}
use Rattle.scoop_message.specs.declared.request.Entry.TheVariants.{Call, Query, End}
use Rattle.scoop_message.specs.declared.request.Request.{Request}
use Rattle.scoop_reserve.specs.declared.error.ReserveError.{ReserveError}
use Rattle.scoop_reserve.specs.declared.error.TooLate.{TooLate as AfterLocking}
use Rattle.scoop_reserve.specs.State.{ReservationState}
use Rattle.scoop_reserve.specs.Starting.{started}
use Rattle.scoop_reserve.specs.Hearing.{given_up}
pub use Rattle.scoop_client.specs.declared.command.Command.{Command}
pub use Rattle.scoop_client.specs.declared.command.Command.TheVariants.{Reserve, Call as DoCall, Query as DoQuery, End as DoEnd, GiveUp}
use Rattle.scoop_client.specs.declared.phase.Phase.{Phase}
use Rattle.scoop_client.specs.declared.phase.Phase.TheVariants.{Greeting, Idle, Locking, Opening, Running, Ending, GivingUp}
use Rattle.scoop_client.specs.declared.error.ClientError.{ClientError}
use Rattle.scoop_client.specs.declared.error.ClientError.TheVariants.{NotGreeted, NotIdle, NoBlock, Waiting, NotReserved, WindowFull, TooLate, Spent}
use Rattle.scoop_client.specs.declared.error.ClientError.TheVariants.{Reserve as NotReservable, OutOfMemory}
use Rattle.scoop_client.specs.Window.{WindowState, fresh_window, logged, is_full, with_entry, with_end, window_of, at_window, lowest_full}
use Rattle.scoop_client.specs.State.{ClientState, phase_of, block_named, with_reservation, with_windows}

-- the client after a command, or the reason to refuse it
abbrev pub Outcome : Type 0
Outcome = Result ClientState ClientError

-- ---- reserve

abbrev pub next_block : ClientState → Block
next_block c = block_named c.id c.inc (c.last + 1)

-- the block number is used up, and each handler gets a window
abbrev pub with_block : ClientState → List HandlerId → ReservationState → ClientState
with_block c hs r = record c { last = c.last + 1; reservation = Some r; windows = map fresh_window hs; waits = None }

abbrev pub reserved : ClientState → List HandlerId → Result ReservationState ReserveError → Outcome
reserved c hs (Err e) = Err (NotReservable e)
reserved c hs (Ok r) = Ok (with_block c hs r)

abbrev pub reserve : ClientState → List HandlerId → Phase → Outcome
reserve c hs Greeting = Err NotGreeted
reserve c hs Idle =
    if c.last == 2 ^ 32 - 1 then Err Spent else reserved c hs (started (next_block c) hs c.handlers)
reserve c hs Locking = Err NotIdle
reserve c hs Opening = Err NotIdle
reserve c hs Running = Err NotIdle
reserve c hs Ending = Err NotIdle
reserve c hs GivingUp = Err NotIdle

-- ---- call and query

-- a query waits, by its handler and number
abbrev pub waits_for : HandlerId → ℕ → Entry → Option (HandlerId × ℕ)
waits_for h n (Call r) = None
waits_for h n (Query r) = Some (h, n)
waits_for h n End = None

-- the entry is logged with this number
abbrev pub with_logged : ClientState → HandlerId → Entry → ℕ → ClientState
with_logged c h e n = with_windows c (at_window h (with_entry e) c.windows) (waits_for h n e)

-- the number 2^32-1 is kept for the End
abbrev pub log_window : ClientState → HandlerId → Entry → Option WindowState → Outcome
log_window c h e None = Err (NotReserved h)
log_window c h e (Some l) =
    if is_full l then Err (WindowFull h)
    else if nat_le (2 ^ 32 - 2) (logged l) then Err Spent
    else Ok (with_logged c h e (logged l + 1))

abbrev pub log_unless : ClientState → HandlerId → Entry → Option (HandlerId × ℕ) → Outcome
log_unless c h e (Some w) = Err (Waiting w.0)
log_unless c h e None = log_window c h e (window_of h c.windows)

abbrev pub log : ClientState → HandlerId → Entry → Phase → Outcome
log c h e Greeting = Err NotGreeted
log c h e Idle = Err NoBlock
log c h e Locking = Err NoBlock
log c h e Opening = Err NoBlock
log c h e Running = log_unless c h e c.waits
log c h e Ending = Err NoBlock
log c h e GivingUp = Err NoBlock

-- ---- end

-- an End is logged at every reserved handler
abbrev pub with_ends : ClientState → ClientState
with_ends c = with_windows c (map with_end c.windows) None

abbrev pub end_unless_full : ClientState → Option HandlerId → Outcome
end_unless_full c (Some h) = Err (WindowFull h)
end_unless_full c None = Ok (with_ends c)

abbrev pub end_unless_waiting : ClientState → Option (HandlerId × ℕ) → Outcome
end_unless_waiting c (Some w) = Err (Waiting w.0)
end_unless_waiting c None = end_unless_full c (lowest_full c.windows)

abbrev pub end_block : ClientState → Phase → Outcome
end_block c Greeting = Err NotGreeted
end_block c Idle = Err NoBlock
end_block c Locking = Err NoBlock
end_block c Opening = Err NoBlock
end_block c Running = end_unless_waiting c c.waits
end_block c Ending = Err NoBlock
end_block c GivingUp = Err NoBlock

-- ---- give up

abbrev pub without_block : ClientState → Result ReservationState AfterLocking → Outcome
without_block c (Ok r) = Ok (with_reservation c r)
without_block c (Err e) = Err TooLate

abbrev pub give_up_block : ClientState → Option ReservationState → Outcome
give_up_block c None = Err NoBlock
give_up_block c (Some r) = without_block c (given_up r)

abbrev pub give_up : ClientState → Phase → Outcome
give_up c Greeting = Err NotGreeted
give_up c Idle = Err NoBlock
give_up c Locking = give_up_block c c.reservation
give_up c Opening = Err TooLate
give_up c Running = Err TooLate
give_up c Ending = Err TooLate
give_up c GivingUp = Err TooLate

abbrev pub command : ClientState → Command → Outcome
command c (Reserve hs) = reserve c hs (phase_of c)
command c (DoCall h r) = log c h (Call r) (phase_of c)
command c (DoQuery h r) = log c h (Query r) (phase_of c)
command c DoEnd = end_block c (phase_of c)
command c GiveUp = give_up c (phase_of c)

-- the commands that take memory
abbrev pub IsReserve : Command → Type 0
IsReserve (Reserve hs) = ⊤
IsReserve (DoCall h r) = ⊥
IsReserve (DoQuery h r) = ⊥
IsReserve DoEnd = ⊥
IsReserve GiveUp = ⊥

-- ---- the outcome of a call

-- out of memory is the last refusal: all others come first
abbrev pub IsRefused : Outcome → ClientError → Type 0
IsRefused outcome NotGreeted = outcome ≡ Err NotGreeted
IsRefused outcome NotIdle = outcome ≡ Err NotIdle
IsRefused outcome NoBlock = outcome ≡ Err NoBlock
IsRefused outcome (Waiting h) = outcome ≡ Err (Waiting h)
IsRefused outcome (NotReserved h) = outcome ≡ Err (NotReserved h)
IsRefused outcome (WindowFull h) = outcome ≡ Err (WindowFull h)
IsRefused outcome TooLate = outcome ≡ Err TooLate
IsRefused outcome Spent = outcome ≡ Err Spent
IsRefused outcome (NotReservable e) = outcome ≡ Err (NotReservable e)
IsRefused outcome OutOfMemory = IsOk outcome

-- the client takes the outcome or, if refused, stays as it was
abbrev pub Answers : Outcome → Result Unit ClientError → ClientState → ClientState → Type 0
Answers outcome (Ok u) c d = outcome ≡ Ok d
Answers outcome (Err e) c d = IsRefused outcome e × (d ≡ c)

abbrev pub Commanded : Command → Result Unit ClientError → ClientState → ClientState → Type 0
Commanded x result c d = Answers (command c x) result c d

-- the same for a call that takes no memory
abbrev pub AnswersAlways : Outcome → Result Unit ClientError → ClientState → ClientState → Type 0
AnswersAlways outcome (Ok u) c d = outcome ≡ Ok d
AnswersAlways outcome (Err e) c d = (outcome ≡ Err e) × (d ≡ c)

abbrev pub CommandedAlways : Command → Result Unit ClientError → ClientState → ClientState → Type 0
CommandedAlways x result c d = AnswersAlways (command c x) result c d

-- the outcome of testing a command: it would be taken, memory apart, or the reason to refuse it
abbrev pub Foretells : Outcome → Result Unit ClientError → Type 0
Foretells outcome (Ok u) = IsOk outcome
Foretells outcome (Err e) = outcome ≡ Err e
