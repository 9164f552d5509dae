-- The client's tables as relations, with a case for each line. The outcomes that fit them are exactly those of `due`,
-- `heard` and `command`.
use Rattle.std.specs.Prelude.{◌≡◌, ◌≢◌, ℕ, ◌+◌, ◌-◌, ◌^◌, ◌==◌, ◌||◌, true, false, nat_lt, nat_le, length, map, List, Option, Some, None, Ok, Err}
use Rattle.scoop_message.specs.declared.name.HandlerId.{HandlerId}
use Rattle.scoop_message.specs.declared.request.Entry.{Entry}
use Rattle.scoop_message.specs.declared.request.Entry.TheVariants.{Call, Query}
use Rattle.scoop_message.specs.declared.request.Answer.{Answer as ObjectAnswer}
use Rattle.scoop_message.specs.declared.message.Message.{Message}
use Rattle.scoop_message.specs.declared.message.Message.TheVariants.{Hello, Welcome, Log, Logged, Answer}
use Rattle.scoop_reserve.specs.declared.error.ReserveError.{ReserveError}
use Rattle.scoop_reserve.specs.Handlers.{has, without}
use Rattle.scoop_reserve.specs.State.{ReservationState}
use Rattle.scoop_reserve.specs.Starting.{started}
use Rattle.scoop_reserve.specs.Hearing.{is_open, given_up}
use Rattle.scoop_reserve.specs.Hearing as reservation
use Rattle.scoop_reserve.specs.Due as owed
use Rattle.scoop_reserve.specs.Rows as reservation_rows
use Rattle.scoop_client.specs.declared.phase.Phase.TheVariants.{Greeting, Idle, Locking, Running}
use Rattle.scoop_client.specs.declared.phase.ClientNote.{ClientNote}
use Rattle.scoop_client.specs.declared.phase.ClientNote.TheVariants.{Welcomed, Acknowledged, Accepted, Ignored}
use Rattle.scoop_client.specs.declared.error.ClientError.TheVariants.{NotGreeted, NotIdle, NoBlock, Waiting, NotReserved, WindowFull, TooLate, Spent}
use Rattle.scoop_client.specs.declared.error.ClientError.TheVariants.{Reserve as NotReservable}
use Rattle.scoop_client.specs.Window.{WindowState, first_entries, is_full, logged, with_entry, with_end, acknowledged, window_of, at_window, lowest_full}
use Rattle.scoop_client.specs.State.{ClientState, phase_of, with_unwelcomed, with_windows, with_reservation}
use Rattle.scoop_client.specs.Hearing.{after_step, settled, up_to}
use Rattle.scoop_client.specs.Commands.{Command, Outcome, Reserve, DoCall, DoQuery, DoEnd, GiveUp, next_block, with_block, waits_for}

-- ---- the message that is due

-- nothing is due to a handler that has welcomed the client
pub data OwesNothing (c : ClientState) (h : HandlerId) : Type 0 where
  has_no_block : has c.unwelcomed h ≡ false → c.reservation ≡ None → OwesNothing c h
  waits_for_others : (r : ReservationState) → has c.unwelcomed h ≡ false → c.reservation ≡ Some r → owed.due r h ≡ None → is_open r ≡ false → OwesNothing c h
  is_elsewhere : (r : ReservationState) → has c.unwelcomed h ≡ false → c.reservation ≡ Some r → owed.due r h ≡ None → is_open r ≡ true →
      window_of h c.windows ≡ None → OwesNothing c h
  all_acknowledged : (r : ReservationState) (l : WindowState) → has c.unwelcomed h ≡ false → c.reservation ≡ Some r → owed.due r h ≡ None →
      is_open r ≡ true → window_of h c.windows ≡ Some l → (length l.unacked == 0) ≡ true → OwesNothing c h

-- the cases; `owes_nothing` is for one of these
pub data DueRow (c : ClientState) (h : HandlerId) : Option Message → Type 0 where
  owes_nothing : DueRow c h None
  greets : has c.unwelcomed h ≡ true → DueRow c h (Some (Hello h c.id c.inc))
  reserves : (r : ReservationState) (m : Message) → has c.unwelcomed h ≡ false → c.reservation ≡ Some r → owed.due r h ≡ Some m → DueRow c h (Some m)
  logs : (r : ReservationState) (l : WindowState) → has c.unwelcomed h ≡ false → c.reservation ≡ Some r → owed.due r h ≡ None →
      is_open r ≡ true → window_of h c.windows ≡ Some l → (length l.unacked == 0) ≡ false →
      DueRow c h (Some (Log l.handler r.block (l.acked + 1) (first_entries c.batch l.unacked)))

-- the table: one of the cases, and nothing is due only if nothing is owed
pub record IsDue (c : ClientState) (h : HandlerId) (message : Option Message) : Type 0 where
  pub row : DueRow c h message
  pub nothing : message ≡ None → OwesNothing c h

-- ---- hearing

-- the messages that are awaited
pub data Awaits (c : ClientState) : Message → Type 0 where
  awaits_welcome : (h : HandlerId) → has c.unwelcomed h ≡ true → Awaits c (Welcome h c.id c.inc)
  awaits_step : (m : Message) (r : ReservationState) → c.reservation ≡ Some r → reservation_rows.Awaits r m → Awaits c m
  awaits_count : (h : HandlerId) (n : ℕ) (r : ReservationState) (l : WindowState) → c.reservation ≡ Some r → is_open r ≡ true →
      window_of h c.windows ≡ Some l → (nat_lt (logged l) n || nat_le (up_to h n c.waits) l.acked) ≡ false →
      Awaits c (Logged h r.block n)
  awaits_answer : (h : HandlerId) (n : ℕ) (a : ObjectAnswer) (r : ReservationState) → c.reservation ≡ Some r → is_open r ≡ true → c.waits ≡ Some (h, n) →
      Awaits c (Answer h r.block n a)

-- the cases; `passed_over` is for a message that isn't awaited, or a step of the reservation that it doesn't await
pub data HeardRow (c : ClientState) : Message → ClientState → ClientNote → Type 0 where
  passed_over : (m : Message) → HeardRow c m c Ignored
  is_welcomed : (h : HandlerId) → has c.unwelcomed h ≡ true → HeardRow c (Welcome h c.id c.inc) (with_unwelcomed c (without h c.unwelcomed)) (Welcomed h)
  takes_step : (m : Message) (r : ReservationState) → c.reservation ≡ Some r →
      HeardRow c m (after_step c (reservation.heard r m).0 (reservation.heard r m).1).0 (after_step c (reservation.heard r m).0 (reservation.heard r m).1).1
  is_acknowledged : (h : HandlerId) (n : ℕ) (r : ReservationState) (l : WindowState) → c.reservation ≡ Some r → is_open r ≡ true →
      window_of h c.windows ≡ Some l → (nat_lt (logged l) n || nat_le (up_to h n c.waits) l.acked) ≡ false →
      HeardRow c (Logged h r.block n)
      (settled (with_windows c (at_window h (acknowledged (up_to h n c.waits)) c.windows) c.waits)) (Acknowledged h (up_to h n c.waits))
  is_accepted : (h : HandlerId) (n : ℕ) (a : ObjectAnswer) (r : ReservationState) → c.reservation ≡ Some r → is_open r ≡ true → c.waits ≡ Some (h, n) →
      HeardRow c (Answer h r.block n a) (with_windows c (at_window h (acknowledged n) c.windows) None) (Accepted h n a)

-- the table: one of the cases, and only a message that isn't awaited is ignored
pub record IsHeard (c : ClientState) (m : Message) (d : ClientState) (note : ClientNote) : Type 0 where
  pub row : HeardRow c m d note
  pub ignored : note ≡ Ignored → ¬ Awaits c m

-- ---- commands

pub data ReserveRow (c : ClientState) (hs : List HandlerId) : Outcome → Type 0 where
  reserve_not_greeted : phase_of c ≡ Greeting → ReserveRow c hs (Err NotGreeted)
  reserve_not_idle : phase_of c ≢ Greeting → phase_of c ≢ Idle → ReserveRow c hs (Err NotIdle)
  reserve_spent : phase_of c ≡ Idle → (c.last == 2 ^ 32 - 1) ≡ true → ReserveRow c hs (Err Spent)
  reserve_refused : (e : ReserveError) → phase_of c ≡ Idle → (c.last == 2 ^ 32 - 1) ≡ false → started (next_block c) hs c.handlers ≡ Err e →
      ReserveRow c hs (Err (NotReservable e))
  begins_block : (r : ReservationState) → phase_of c ≡ Idle → (c.last == 2 ^ 32 - 1) ≡ false → started (next_block c) hs c.handlers ≡ Ok r →
      ReserveRow c hs (Ok (with_block c hs r))

-- a call or a query
pub data LogRow (c : ClientState) (h : HandlerId) (e : Entry) : Outcome → Type 0 where
  log_not_greeted : phase_of c ≡ Greeting → LogRow c h e (Err NotGreeted)
  log_no_block : phase_of c ≢ Greeting → phase_of c ≢ Running → LogRow c h e (Err NoBlock)
  log_waiting : (w : HandlerId × ℕ) → phase_of c ≡ Running → c.waits ≡ Some w → LogRow c h e (Err (Waiting w.0))
  log_not_reserved : phase_of c ≡ Running → c.waits ≡ None → window_of h c.windows ≡ None → LogRow c h e (Err (NotReserved h))
  log_window_full : (l : WindowState) → phase_of c ≡ Running → c.waits ≡ None → window_of h c.windows ≡ Some l → is_full l ≡ true →
      LogRow c h e (Err (WindowFull h))
  log_spent : (l : WindowState) → phase_of c ≡ Running → c.waits ≡ None → window_of h c.windows ≡ Some l → is_full l ≡ false →
      nat_le (2 ^ 32 - 2) (logged l) ≡ true →
      LogRow c h e (Err Spent)
  is_logged : (l : WindowState) → phase_of c ≡ Running → c.waits ≡ None → window_of h c.windows ≡ Some l → is_full l ≡ false →
      nat_le (2 ^ 32 - 2) (logged l) ≡ false →
      LogRow c h e (Ok (with_windows c (at_window h (with_entry e) c.windows) (waits_for h (logged l + 1) e)))

pub data EndRow (c : ClientState) : Outcome → Type 0 where
  end_not_greeted : phase_of c ≡ Greeting → EndRow c (Err NotGreeted)
  end_no_block : phase_of c ≢ Greeting → phase_of c ≢ Running → EndRow c (Err NoBlock)
  end_waiting : (w : HandlerId × ℕ) → phase_of c ≡ Running → c.waits ≡ Some w → EndRow c (Err (Waiting w.0))
  end_window_full : (h : HandlerId) → phase_of c ≡ Running → c.waits ≡ None → lowest_full c.windows ≡ Some h → EndRow c (Err (WindowFull h))
  ends_block : phase_of c ≡ Running → c.waits ≡ None → lowest_full c.windows ≡ None → EndRow c (Ok (with_windows c (map with_end c.windows) None))

pub data GiveUpRow (c : ClientState) : Outcome → Type 0 where
  give_up_not_greeted : phase_of c ≡ Greeting → GiveUpRow c (Err NotGreeted)
  give_up_no_block : phase_of c ≡ Idle → GiveUpRow c (Err NoBlock)
  give_up_too_late : phase_of c ≢ Greeting → phase_of c ≢ Idle → phase_of c ≢ Locking → GiveUpRow c (Err TooLate)
  gives_up : (r s : ReservationState) → phase_of c ≡ Locking → c.reservation ≡ Some r → given_up r ≡ Ok s → GiveUpRow c (Ok (with_reservation c s))

abbrev pub CommandRow : ClientState → Command → Outcome → Type 0
CommandRow c (Reserve hs) = ReserveRow c hs
CommandRow c (DoCall h r) = LogRow c h (Call r)
CommandRow c (DoQuery h r) = LogRow c h (Query r)
CommandRow c DoEnd = EndRow c
CommandRow c GiveUp = GiveUpRow c
