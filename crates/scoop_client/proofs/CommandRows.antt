-- Each command's outcome is one of the cases, and a case that fits is the outcome. The command's tests go both ways,
-- and their results on a way are the conditions of its case. Conversely, the conditions of a case decide the tests its
-- way.
use Rattle.std.proofs.Common.{◌≡◌, ◌≢◌, ◌↔◌, ℕ, ◌+◌, ◌-◌, ◌^◌, ◌==◌, Bool, true, false, List, Option, Some, None, refl, sym, ap, subst, ◌∙◌}
use Rattle.std.specs.Prelude.{if◌then◌else◌, nat_le, Result, Ok, Err}
use Rattle.scoop_message.specs.declared.name.HandlerId.{HandlerId}
use Rattle.scoop_message.specs.declared.request.Entry.{Entry}
use Rattle.scoop_message.specs.declared.request.Entry.TheVariants.{Call, Query}
use Rattle.scoop_reserve.specs.declared.error.ReserveError.{ReserveError}
use Rattle.scoop_reserve.specs.declared.error.TooLate.{TooLate as AfterLocking}
use Rattle.scoop_reserve.specs.State.{ReservationState}
use Rattle.scoop_reserve.specs.Starting.{started}
use Rattle.scoop_reserve.specs.Hearing.{given_up, given_up_in}
use Rattle.scoop_client.specs.declared.phase.Phase.{Phase}
use Rattle.scoop_client.specs.declared.phase.Phase.TheVariants.{Greeting, Idle, Locking, Opening, Running, Ending, GivingUp}
use Rattle.scoop_client.specs.declared.error.ClientError.TheVariants.{NotIdle, NoBlock, TooLate, WindowFull, Spent}
use Rattle.scoop_reserve.specs.declared.stage.Stage.{Stage}
use Rattle.scoop_reserve.specs.declared.stage.Stage.TheVariants as stage
use Rattle.scoop_client.specs.Window.{WindowState, is_ended, is_full, logged, with_entry, at_window, window_of, lowest_full}
use Rattle.scoop_reserve.specs.Handlers.{is_empty}
use Rattle.scoop_client.specs.State.{ClientState, phase_of, phase_at, phase_of_block, with_windows}
use Rattle.scoop_client.specs.Commands.{Command, Outcome, Reserve, DoCall, DoQuery, DoEnd, GiveUp, command, reserve, reserved, next_block, log, log_unless}
use Rattle.scoop_client.specs.Commands.{log_window, waits_for, end_block, end_unless_waiting, end_unless_full, give_up, give_up_block, without_block}
use Rattle.scoop_client.specs.Rows.{ReserveRow, reserve_not_greeted, reserve_not_idle, reserve_spent, reserve_refused, begins_block, LogRow, log_not_greeted}
use Rattle.scoop_client.specs.Rows.{log_no_block, log_waiting, log_not_reserved, log_window_full, log_spent, is_logged, EndRow, end_not_greeted, end_no_block}
use Rattle.scoop_client.specs.Rows.{end_waiting, end_window_full, ends_block, GiveUpRow, give_up_not_greeted, give_up_no_block, give_up_too_late, gives_up}
use Rattle.scoop_client.specs.Rows.{CommandRow}

by_test : (P : Outcome → Type 0) (b : Bool) (s t : Outcome) → (b ≡ true → P s) → (b ≡ false → P t) → P (if b then s else t)
by_test P true s t p q = p refl
by_test P false s t p q = q refl

-- phases differ
other : {p q r : Phase} → p ≡ q → (q ≡ r → ⊥) → p ≢ r
other is apart e = apart (sym is ∙ e)

-- ---- the reservation while it locks

locking_stage : (now : Stage) (ended : Bool) → phase_at now ended ≡ Locking → now ≡ stage.Locking
locking_stage stage.Locking ended e = refl
locking_stage stage.Opening ended e = cc
locking_stage stage.Unlocking true e = cc
locking_stage stage.Unlocking false e = cc
locking_stage stage.GivingUp ended e = cc

locking_block : (b : Bool) (ls : List WindowState) (r : Option ReservationState) → (if b then phase_of_block ls r else Greeting) ≡ Locking → r ≡ None → ⊥
locking_block true ls None e none = cc
locking_block true ls (Some r) e none = cc
locking_block false ls r e none = cc

locking_reservation : (b : Bool) (ls : List WindowState) (o : Option ReservationState) (r : ReservationState)
    → (if b then phase_of_block ls o else Greeting) ≡ Locking → o ≡ Some r → r.stage ≡ stage.Locking
locking_reservation true ls None r e held = cc
locking_reservation true ls (Some x) r e held = let same : x ≡ r = cc in
    subst (λ (y : ReservationState). y.stage ≡ stage.Locking) same (locking_stage x.stage (is_ended ls) e)
locking_reservation false ls o r e held = cc

no_refusal : (r : ReservationState) (e : AfterLocking) → r.stage ≡ stage.Locking → given_up r ≡ Err e → ⊥
no_refusal r e at gone = let one : given_up_in r stage.Locking ≡ Err e = rw at at gone in cc

module _ (c : ClientState) where
  -- ---- each outcome has its case

  begin_row : (hs : List HandlerId) (r : Result ReservationState ReserveError) → phase_of c ≡ Idle → (c.last == 2 ^ 32 - 1) ≡ false
      → started (next_block c) hs c.handlers ≡ r → ReserveRow c hs (reserved c hs r)
  begin_row hs (Err e) idle free is = reserve_refused e idle free is
  begin_row hs (Ok r) idle free is = begins_block r idle free is

  reserve_is : (hs : List HandlerId) (p : Phase) → phase_of c ≡ p → ReserveRow c hs (reserve c hs p)
  reserve_is hs Greeting is = reserve_not_greeted is
  reserve_is hs Idle is =
      by_test (ReserveRow c hs) (c.last == 2 ^ 32 - 1) (Err Spent) (reserved c hs (started (next_block c) hs c.handlers)) (reserve_spent is)
      (λ free. begin_row hs (started (next_block c) hs c.handlers) is free refl)
  reserve_is hs Locking is = reserve_not_idle (other is (λ e. cc)) (other is (λ e. cc))
  reserve_is hs Opening is = reserve_not_idle (other is (λ e. cc)) (other is (λ e. cc))
  reserve_is hs Running is = reserve_not_idle (other is (λ e. cc)) (other is (λ e. cc))
  reserve_is hs Ending is = reserve_not_idle (other is (λ e. cc)) (other is (λ e. cc))
  reserve_is hs GivingUp is = reserve_not_idle (other is (λ e. cc)) (other is (λ e. cc))

  window_is : (h : HandlerId) (e : Entry) (l : Option WindowState) → phase_of c ≡ Running → c.waits ≡ None → window_of h c.windows ≡ l
      → LogRow c h e (log_window c h e l)
  window_is h e None run free window = log_not_reserved run free window
  window_is h e (Some l) run free window =
      let taken : Outcome = Ok (with_windows c (at_window h (with_entry e) c.windows) (waits_for h (logged l + 1) e)) in
      by_test (LogRow c h e) (is_full l) (Err (WindowFull h)) (if nat_le (2 ^ 32 - 2) (logged l) then Err Spent else taken) (log_window_full l run free window)
      (λ room. by_test (LogRow c h e) (nat_le (2 ^ 32 - 2) (logged l)) (Err Spent) taken (log_spent l run free window room) (is_logged l run free window room))

  running_is : (h : HandlerId) (e : Entry) (w : Option (HandlerId × ℕ)) → phase_of c ≡ Running → c.waits ≡ w → LogRow c h e (log_unless c h e w)
  running_is h e (Some w) run waits = log_waiting w run waits
  running_is h e None run waits = window_is h e (window_of h c.windows) run waits refl

  log_is : (h : HandlerId) (e : Entry) (p : Phase) → phase_of c ≡ p → LogRow c h e (log c h e p)
  log_is h e Greeting is = log_not_greeted is
  log_is h e Idle is = log_no_block (other is (λ e. cc)) (other is (λ e. cc))
  log_is h e Locking is = log_no_block (other is (λ e. cc)) (other is (λ e. cc))
  log_is h e Opening is = log_no_block (other is (λ e. cc)) (other is (λ e. cc))
  log_is h e Running is = running_is h e c.waits is refl
  log_is h e Ending is = log_no_block (other is (λ e. cc)) (other is (λ e. cc))
  log_is h e GivingUp is = log_no_block (other is (λ e. cc)) (other is (λ e. cc))

  full_is : (f : Option HandlerId) → phase_of c ≡ Running → c.waits ≡ None → lowest_full c.windows ≡ f → EndRow c (end_unless_full c f)
  full_is (Some h) run free full = end_window_full h run free full
  full_is None run free full = ends_block run free full

  waiting_is : (w : Option (HandlerId × ℕ)) → phase_of c ≡ Running → c.waits ≡ w → EndRow c (end_unless_waiting c w)
  waiting_is (Some w) run waits = end_waiting w run waits
  waiting_is None run waits = full_is (lowest_full c.windows) run waits refl

  end_is : (p : Phase) → phase_of c ≡ p → EndRow c (end_block c p)
  end_is Greeting is = end_not_greeted is
  end_is Idle is = end_no_block (other is (λ e. cc)) (other is (λ e. cc))
  end_is Locking is = end_no_block (other is (λ e. cc)) (other is (λ e. cc))
  end_is Opening is = end_no_block (other is (λ e. cc)) (other is (λ e. cc))
  end_is Running is = waiting_is c.waits is refl
  end_is Ending is = end_no_block (other is (λ e. cc)) (other is (λ e. cc))
  end_is GivingUp is = end_no_block (other is (λ e. cc)) (other is (λ e. cc))

  without_is : (r : ReservationState) (s : Result ReservationState AfterLocking) → phase_of c ≡ Locking → c.reservation ≡ Some r → given_up r ≡ s
      → GiveUpRow c (without_block c s)
  without_is r (Ok s) is held gone = gives_up r s is held gone
  without_is r (Err e) is held gone = absurd (no_refusal r e (locking_reservation (is_empty c.unwelcomed) c.windows c.reservation r is held) gone)

  locking_is : (r : Option ReservationState) → phase_of c ≡ Locking → c.reservation ≡ r → GiveUpRow c (give_up_block c r)
  locking_is None is held = absurd (locking_block (is_empty c.unwelcomed) c.windows c.reservation is held)
  locking_is (Some r) is held = without_is r (given_up r) is held refl

  give_up_is : (p : Phase) → phase_of c ≡ p → GiveUpRow c (give_up c p)
  give_up_is Greeting is = give_up_not_greeted is
  give_up_is Idle is = give_up_no_block is
  give_up_is Locking is = locking_is c.reservation is refl
  give_up_is Opening is = give_up_too_late (other is (λ e. cc)) (other is (λ e. cc)) (other is (λ e. cc))
  give_up_is Running is = give_up_too_late (other is (λ e. cc)) (other is (λ e. cc)) (other is (λ e. cc))
  give_up_is Ending is = give_up_too_late (other is (λ e. cc)) (other is (λ e. cc)) (other is (λ e. cc))
  give_up_is GivingUp is = give_up_too_late (other is (λ e. cc)) (other is (λ e. cc)) (other is (λ e. cc))

  -- each command's outcome is one of these cases
  pub command_row : (x : Command) → CommandRow c x (command c x)
  command_row (Reserve hs) = reserve_is hs (phase_of c) refl
  command_row (DoCall h r) = log_is h (Call r) (phase_of c) refl
  command_row (DoQuery h r) = log_is h (Query r) (phase_of c) refl
  command_row DoEnd = end_is (phase_of c) refl
  command_row GiveUp = give_up_is (phase_of c) refl

  -- ---- each case gives its outcome

  at_phase : (f : Phase → Outcome) (p : Phase) (o : Outcome) → phase_of c ≡ p → f p ≡ o → f (phase_of c) ≡ o
  at_phase f p o is e = ap f is ∙ e

  no_idle : (hs : List HandlerId) (p : Phase) → p ≢ Greeting → p ≢ Idle → reserve c hs p ≡ Err NotIdle
  no_idle hs Greeting g i = absurd (g refl)
  no_idle hs Idle g i = absurd (i refl)
  no_idle hs Locking g i = refl
  no_idle hs Opening g i = refl
  no_idle hs Running g i = refl
  no_idle hs Ending g i = refl
  no_idle hs GivingUp g i = refl

  reserve_gives : (hs : List HandlerId) (o : Outcome) → ReserveRow c hs o → reserve c hs (phase_of c) ≡ o
  reserve_gives hs o (reserve_not_greeted is) = at_phase (reserve c hs) Greeting _ is refl
  reserve_gives hs o (reserve_not_idle g i) = no_idle hs (phase_of c) g i
  reserve_gives hs o (reserve_spent is last) = at_phase (reserve c hs) Idle _ is (rw last refl)
  reserve_gives hs o (reserve_refused e is room begins) = at_phase (reserve c hs) Idle _ is (rw (room, begins) refl)
  reserve_gives hs o (begins_block r is room begins) = at_phase (reserve c hs) Idle _ is (rw (room, begins) refl)

  no_running : (h : HandlerId) (e : Entry) (p : Phase) → p ≢ Greeting → p ≢ Running → log c h e p ≡ Err NoBlock
  no_running h e Greeting g r = absurd (g refl)
  no_running h e Idle g r = refl
  no_running h e Locking g r = refl
  no_running h e Opening g r = refl
  no_running h e Running g r = absurd (r refl)
  no_running h e Ending g r = refl
  no_running h e GivingUp g r = refl

  log_gives : (h : HandlerId) (e : Entry) (o : Outcome) → LogRow c h e o → log c h e (phase_of c) ≡ o
  log_gives h e o (log_not_greeted is) = at_phase (log c h e) Greeting _ is refl
  log_gives h e o (log_no_block g r) = no_running h e (phase_of c) g r
  log_gives h e o (log_waiting w is waits) = at_phase (log c h e) Running _ is (ap (log_unless c h e) waits)
  log_gives h e o (log_not_reserved is free window) = at_phase (log c h e) Running _ is (ap (log_unless c h e) free ∙ ap (log_window c h e) window)
  log_gives h e o (log_window_full l is free window full) = at_phase (log c h e) Running _ is
      (ap (log_unless c h e) free ∙ ap (log_window c h e) window ∙ rw full refl)
  log_gives h e o (log_spent l is free window room spent) = at_phase (log c h e) Running _ is
      (ap (log_unless c h e) free ∙ ap (log_window c h e) window ∙ rw (room, spent) refl)
  log_gives h e o (is_logged l is free window room more) = at_phase (log c h e) Running _ is
      (ap (log_unless c h e) free ∙ ap (log_window c h e) window ∙ rw (room, more) refl)

  no_end : (p : Phase) → p ≢ Greeting → p ≢ Running → end_block c p ≡ Err NoBlock
  no_end Greeting g r = absurd (g refl)
  no_end Idle g r = refl
  no_end Locking g r = refl
  no_end Opening g r = refl
  no_end Running g r = absurd (r refl)
  no_end Ending g r = refl
  no_end GivingUp g r = refl

  end_gives : (o : Outcome) → EndRow c o → end_block c (phase_of c) ≡ o
  end_gives o (end_not_greeted is) = at_phase (end_block c) Greeting _ is refl
  end_gives o (end_no_block g r) = no_end (phase_of c) g r
  end_gives o (end_waiting w is waits) = at_phase (end_block c) Running _ is (ap (end_unless_waiting c) waits)
  end_gives o (end_window_full h is free full) = at_phase (end_block c) Running _ is (ap (end_unless_waiting c) free ∙ ap (end_unless_full c) full)
  end_gives o (ends_block is free room) = at_phase (end_block c) Running _ is (ap (end_unless_waiting c) free ∙ ap (end_unless_full c) room)

  no_lock : (p : Phase) → p ≢ Greeting → p ≢ Idle → p ≢ Locking → give_up c p ≡ Err TooLate
  no_lock Greeting g i l = absurd (g refl)
  no_lock Idle g i l = absurd (i refl)
  no_lock Locking g i l = absurd (l refl)
  no_lock Opening g i l = refl
  no_lock Running g i l = refl
  no_lock Ending g i l = refl
  no_lock GivingUp g i l = refl

  give_up_gives : (o : Outcome) → GiveUpRow c o → give_up c (phase_of c) ≡ o
  give_up_gives o (give_up_not_greeted is) = at_phase (give_up c) Greeting _ is refl
  give_up_gives o (give_up_no_block is) = at_phase (give_up c) Idle _ is refl
  give_up_gives o (give_up_too_late g i l) = no_lock (phase_of c) g i l
  give_up_gives o (gives_up r s is held given) = at_phase (give_up c) Locking _ is (ap (give_up_block c) held ∙ ap (without_block c) given)

  row_gives : (x : Command) (o : Outcome) → CommandRow c x o → command c x ≡ o
  row_gives (Reserve hs) o row = reserve_gives hs o row
  row_gives (DoCall h r) o row = log_gives h (Call r) o row
  row_gives (DoQuery h r) o row = log_gives h (Query r) o row
  row_gives DoEnd o row = end_gives o row
  row_gives GiveUp o row = give_up_gives o row

  -- the table gives each command one outcome
  pub command_exactly : (x : Command) (o : Outcome) → (command c x ≡ o) ↔ CommandRow c x o
  command_exactly x o = (λ e. subst (CommandRow c x) e (command_row x), row_gives x o)
