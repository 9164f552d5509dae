-- The message that is due fits the table, and nothing else fits.
use Rattle.std.proofs.Common.{◌≡◌, ◌↔◌, ◌+◌, ◌==◌, Bool, true, false, length, Option, Some, None, refl, subst}
use Rattle.std.specs.Prelude.{if◌then◌else◌}
use Rattle.scoop_message.specs.declared.name.HandlerId.{HandlerId}
use Rattle.scoop_message.specs.declared.message.Message.{Message}
use Rattle.scoop_message.specs.declared.message.Message.TheVariants.{Hello, Log}
use Rattle.scoop_reserve.specs.Handlers.{has}
use Rattle.scoop_reserve.specs.State.{ReservationState}
use Rattle.scoop_reserve.specs.Hearing.{is_open}
use Rattle.scoop_reserve.specs.Due as owed
use Rattle.scoop_client.specs.Window.{WindowState, first_entries, window_of}
use Rattle.scoop_client.specs.State.{ClientState}
use Rattle.scoop_client.specs.Due.{due, due_in_block, due_after, due_window}
use Rattle.scoop_client.specs.Rows.{OwesNothing, has_no_block, waits_for_others, is_elsewhere, all_acknowledged, DueRow, owes_nothing, greets, reserves, logs}
use Rattle.scoop_client.specs.Rows.{IsDue}

module _ (c : ClientState) (h : HandlerId) where
  by_test : (b : Bool) (s t : Option Message) → (b ≡ true → IsDue c h s) → (b ≡ false → IsDue c h t) → IsDue c h (if b then s else t)
  by_test true s t p q = p refl
  by_test false s t p q = q refl

  -- ---- each outcome has its case

  none : OwesNothing c h → IsDue c h None
  none why = record { row = owes_nothing; nothing = λ e. why }

  some : (m : Message) → DueRow c h (Some m) → IsDue c h (Some m)
  some m row = record { row = row; nothing = λ e. absurd (cc) }

  window_row : (r : ReservationState) (l : Option WindowState) → has c.unwelcomed h ≡ false → c.reservation ≡ Some r → owed.due r h ≡ None → is_open r ≡ true
      → window_of h c.windows ≡ l → IsDue c h (due_window c.batch r.block l)
  window_row r None greeted held free opened window = none (is_elsewhere r greeted held free opened window)
  window_row r (Some l) greeted held free opened window =
      let m : Message = Log l.handler r.block (l.acked + 1) (first_entries c.batch l.unacked) in
      by_test (length l.unacked == 0) None (Some m) (λ over. none (all_acknowledged r l greeted held free opened window over))
      (λ rest. some m (logs r l greeted held free opened window rest))

  after_row : (r : ReservationState) (m : Option Message) → has c.unwelcomed h ≡ false → c.reservation ≡ Some r → owed.due r h ≡ m
      → IsDue c h (due_after c h r m)
  after_row r (Some m) greeted held owes = some m (reserves r m greeted held owes)
  after_row r None greeted held free =
      by_test (is_open r) (due_window c.batch r.block (window_of h c.windows)) None
      (λ opened. window_row r (window_of h c.windows) greeted held free opened refl) (λ shut. none (waits_for_others r greeted held free shut))

  block_row : (r : Option ReservationState) → has c.unwelcomed h ≡ false → c.reservation ≡ r → IsDue c h (due_in_block c h r)
  block_row None greeted held = none (has_no_block greeted held)
  block_row (Some r) greeted held = after_row r (owed.due r h) greeted held refl

  is_due : IsDue c h (due c h)
  is_due = by_test (has c.unwelcomed h) (Some (Hello h c.id c.inc)) (due_in_block c h c.reservation) (λ left. some (Hello h c.id c.inc) (greets left))
      (λ greeted. block_row c.reservation greeted refl)

  -- one of these cases gives the message that is due, or none
  pub due_row : DueRow c h (due c h)
  due_row = is_due.row

  -- ---- each case gives its outcome

  nothing_owed : OwesNothing c h → due c h ≡ None
  nothing_owed (has_no_block greeted held) = rw (greeted, held) refl
  nothing_owed (waits_for_others r greeted held free shut) = rw (greeted, held, free, shut) refl
  nothing_owed (is_elsewhere r greeted held free opened window) = rw (greeted, held, free, opened, window) refl
  nothing_owed (all_acknowledged r l greeted held free opened window over) = rw (greeted, held, free, opened, window, over) refl

  row_gives : (message : Option Message) → DueRow c h message → (message ≡ None → OwesNothing c h) → due c h ≡ message
  row_gives message owes_nothing why = nothing_owed (why refl)
  row_gives message (greets left) why = rw left refl
  row_gives message (reserves r m greeted held owes) why = rw (greeted, held, owes) refl
  row_gives message (logs r l greeted held free opened window rest) why = rw (greeted, held, free, opened, window, rest) refl

  -- for one message, or for none, the table says that it is due
  pub due_exactly : (message : Option Message) → (due c h ≡ message) ↔ IsDue c h message
  due_exactly message = (λ e. subst (IsDue c h) e is_due, λ d. row_gives message d.row d.nothing)
