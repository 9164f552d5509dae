-- A message that fits a row has the outcome that `hear` gives, so it has one outcome. The row's conditions on the
-- handler and on the client's mark decide the table's tests before its outcome. So `hear` comes to that outcome, and
-- `hear`'s outcome has its row by `TableRows`.
use Rattle.std.proofs.Common.{◌≡◌, ◌≢◌, ◌↔◌, ℕ, ◌+◌, ◌<◌, ◌≤◌, Bool, true, false, cond, ◌==◌, nat_lt, nat_le, ◌&&◌, ◌||◌, not, IsTrue, IsFalse, List, ◌⊎◌}
use Rattle.std.proofs.Common.{Option, Some, None, length, refl, sym, ap, subst, ◌∙◌, inl, inr, arith}
use Rattle.std.specs.Prelude.{is_none}
use Rattle.std.proofs.lemmas.Bool.{and_from, and_left, and_right, cond-false, cond-true, eq-eqb, false_from_ne_true, le-leb, le-ltb, lt-leb, lt-ltb, ne_eqb}
use Rattle.std.proofs.lemmas.Bool.{or_from, or_left, or_right}
use Rattle.std.proofs.lemmas.Option.{same_Some}
use Rattle.scoop_message.specs.declared.limits.TheConstants.{MAX_MARKS, MAX_QUEUES}
use Rattle.scoop_message.specs.declared.name.Block.{Block}
use Rattle.scoop_message.specs.declared.name.HandlerId.{HandlerId}
use Rattle.scoop_message.specs.declared.message.Message.{Message}
use Rattle.scoop_message.specs.declared.message.Message.TheVariants.{Hello, Welcome, Lock, Locked, Busy, Open, Opened, Unlock, Unlocked, Log, Logged, Answer}
use Rattle.scoop_message.specs.declared.request.Entry.{Entry}
use Rattle.scoop_message.specs.Entries.{last_number}
use Rattle.scoop_message.specs.Message.{same_handler, handler_of, is_for_handler}
use Rattle.scoop_message.proofs.Same.{handler_decides}
use Rattle.scoop_handler.specs.declared.mark.Mark.{Mark}
use Rattle.scoop_handler.specs.declared.mark.Stage.{Stage}
use Rattle.scoop_handler.specs.declared.mark.Stage.TheVariants.{Held as AtHeld, Open as AtOpen, Shut as AtShut}
use Rattle.scoop_handler.specs.declared.note.Reason.TheVariants.{NotForHandlers, WrongHandler, Ungreeted, Stale, NotHolder, NotOpen, PendingFull}
use Rattle.scoop_handler.specs.Marks.{mark_of, is_held, is_open}
use Rattle.scoop_handler.specs.State.{HandlerState, is_holder, is_unfinished}
use Rattle.scoop_handler.specs.Hearing.{Hearing, IsHeardAt, hear, hear_hello, hear_lock, hear_open, hear_unlock, hear_log, hear_of, hear_at, mark_for, if_here}
use Rattle.scoop_handler.specs.Hearing.{is_new, dropped, took, received_before, kept_answer, new_entries, is_closed, has_no_room}
use Rattle.scoop_handler.specs.Rows.{Row, asking_block, IsUngreeted, IsPast, kind_for_clients, another_handler, too_many_clients, first_greeting}
use Rattle.scoop_handler.specs.Rows.{newer_greeting, repeated_greeting, stale_greeting, ungreeted, stale, lock_granted, lock_refused, repeated_lock, late_lock}
use Rattle.scoop_handler.specs.Rows.{open_without_lock, no_room_for_a_queue, is_opened, repeated_open, unlock_while_unfinished, unlock_of_a_block_never_held}
use Rattle.scoop_handler.specs.Rows.{is_freed, repeated_unlock, IsLogAt, IsNext, log_of_a_block_not_open, is_answered, already_received, has_gap, after_the_end}
use Rattle.scoop_handler.specs.Rows.{pending_full, is_taken}
use Rattle.scoop_handler.proofs.TableRows.{holder_from_test, holds, row}

-- ---- tests, from their conditions

apart_handlers : (h k : HandlerId) → h ≢ k → same_handler h k ≡ false
apart_handlers h k apart = false_from_ne_true (same_handler h k) (λ e. apart ((handler_decides h k).0 e))

not_held : (stage : Stage) → stage ≢ AtHeld → is_held stage ≡ false
not_held AtHeld apart = absurd (apart refl)
not_held AtOpen apart = refl
not_held AtShut apart = refl

not_open : (stage : Stage) → stage ≢ AtOpen → not (is_open stage) ≡ true
not_open AtHeld apart = refl
not_open AtOpen apart = absurd (apart refl)
not_open AtShut apart = refl

holds_not : (holder : Option Block) (b : Block) → holder ≢ Some b → is_holder holder b ≡ false
holds_not holder b apart = false_from_ne_true (is_holder holder b) (λ e. apart (holder_from_test holder b e))

module _ (s : HandlerState) where
  -- ---- the row of a message

  here_gives : (h : HandlerId) (x y : Hearing) → h ≡ s.number → x ≡ y → if_here s h x ≡ y
  here_gives h x y here is = cond-true (same_handler h s.number) x (dropped s WrongHandler) ((handler_decides h s.number).1 here) ∙ is

  elsewhere : (h : HandlerId) (x : Hearing) → h ≢ s.number → if_here s h x ≡ dropped s WrongHandler
  elsewhere h x apart = cond-false (same_handler h s.number) x (dropped s WrongHandler) (apart_handlers h s.number apart)

  at_mark : (b : Block) (k : Mark) (heard : Mark → Hearing) → IsHeardAt s b k → hear_of s b heard ≡ heard k
  at_mark b k heard at =
      let greeted : nat_lt k.inc b.inc ≡ false = le-ltb k.inc b.inc (omega (arith, at.inc)) in
      let newest : (nat_lt b.inc k.inc || nat_lt b.num k.num) ≡ false =
      or_from _ _ (le-ltb b.inc k.inc (omega (arith, at.inc))) (le-ltb b.num k.num at.num) in
      ap (λ m. hear_at s (mark_for b m) heard) at.found ∙ rw (greeted, newest) refl

  ungreeted_gives : (b : Block) (heard : Mark → Hearing) → IsUngreeted b (mark_of b.client s.marks) → hear_of s b heard ≡ dropped s Ungreeted
  ungreeted_gives b heard out = by (mark_of b.client s.marks) out where
    by : (m : Option Mark) → IsUngreeted b m → hear_at s (mark_for b m) heard ≡ dropped s Ungreeted
    by None out = refl
    by (Some k) out = rw (lt-ltb k.inc b.inc out) refl

  past_gives : (b : Block) (k : Mark) (heard : Mark → Hearing) → mark_of b.client s.marks ≡ Some k → IsPast b k → hear_of s b heard ≡ dropped s Stale
  past_gives b k heard found is = ap (λ m. hear_at s (mark_for b m) heard) found ∙ by is where
    by : IsPast b k → hear_at s (mark_for b (Some k)) heard ≡ dropped s Stale
    by (inl newer) = rw (le-ltb k.inc b.inc (omega (arith, newer)), lt-ltb b.inc k.inc newer) refl
    by (inr same) =
        let greeted : nat_lt k.inc b.inc ≡ false = le-ltb k.inc b.inc (omega (arith, same.0)) in
        let past : (nat_lt b.inc k.inc || nat_lt b.num k.num) ≡ true = or_right _ _ (lt-ltb b.num k.num same.1) in
        rw (greeted, past) refl

  lock_is : (h : HandlerId) (b : Block) (k : Mark) (n : Hearing) → h ≡ s.number → IsHeardAt s b k → hear_lock s b k ≡ n → hear s (Lock h b) ≡ n
  lock_is h b k n here at is = here_gives h _ n here (at_mark b k (hear_lock s b) at ∙ is)

  open_is : (h : HandlerId) (b : Block) (k : Mark) (n : Hearing) → h ≡ s.number → IsHeardAt s b k → hear_open s b k ≡ n → hear s (Open h b) ≡ n
  open_is h b k n here at is = here_gives h _ n here (at_mark b k (hear_open s b) at ∙ is)

  unlock_is : (h : HandlerId) (b : Block) (k : Mark) (n : Hearing) → h ≡ s.number → IsHeardAt s b k → hear_unlock s b k ≡ n → hear s (Unlock h b) ≡ n
  unlock_is h b k n here at is = here_gives h _ n here (at_mark b k (hear_unlock s b) at ∙ is)

  log_is : (h : HandlerId) (b : Block) (i : ℕ) (es : List Entry) (k : Mark) (n : Hearing) → h ≡ s.number → IsHeardAt s b k → hear_log s b i es k ≡ n
      → hear s (Log h b i es) ≡ n
  log_is h b i es k n here at is = here_gives h _ n here (at_mark b k (hear_log s b i es) at ∙ is)

  -- ---- rows of all kinds

  to_clients : (m : Message) → IsFalse (is_for_handler m) → hear s m ≡ dropped s NotForHandlers
  to_clients (Hello h c inc) is = cc
  to_clients (Welcome h c inc) is = refl
  to_clients (Lock h b) is = cc
  to_clients (Locked h b) is = refl
  to_clients (Busy h b) is = refl
  to_clients (Open h b) is = cc
  to_clients (Opened h b) is = refl
  to_clients (Unlock h b) is = cc
  to_clients (Unlocked h b) is = refl
  to_clients (Log h b n es) is = cc
  to_clients (Logged h b n) is = refl
  to_clients (Answer h b n a) is = refl

  to_another : (m : Message) → IsTrue (is_for_handler m) → handler_of m ≢ s.number → hear s m ≡ dropped s WrongHandler
  to_another (Hello h c inc) is apart = elsewhere h _ apart
  to_another (Welcome h c inc) is apart = cc
  to_another (Lock h b) is apart = elsewhere h _ apart
  to_another (Locked h b) is apart = cc
  to_another (Busy h b) is apart = cc
  to_another (Open h b) is apart = elsewhere h _ apart
  to_another (Opened h b) is apart = cc
  to_another (Unlock h b) is apart = elsewhere h _ apart
  to_another (Unlocked h b) is apart = cc
  to_another (Log h b n es) is apart = elsewhere h _ apart
  to_another (Logged h b n) is apart = cc
  to_another (Answer h b n a) is apart = cc

  -- the reply to the block that asks, whatever it asks
  asked : (m : Message) (b : Block) (n : Hearing) → handler_of m ≡ s.number → asking_block m ≡ Some b → ((heard : Mark → Hearing) → hear_of s b heard ≡ n)
      → hear s m ≡ n
  asked (Hello h c inc) b n here asks gives = cc
  asked (Welcome h c inc) b n here asks gives = cc
  asked (Lock h d) b n here asks gives =
      let P : Block → Type 0 = λ x. hear s (Lock h x) ≡ n in subst P (sym (same_Some d b asks)) (here_gives h _ n here (gives (hear_lock s b)))
  asked (Locked h d) b n here asks gives = cc
  asked (Busy h d) b n here asks gives = cc
  asked (Open h d) b n here asks gives =
      let P : Block → Type 0 = λ x. hear s (Open h x) ≡ n in subst P (sym (same_Some d b asks)) (here_gives h _ n here (gives (hear_open s b)))
  asked (Opened h d) b n here asks gives = cc
  asked (Unlock h d) b n here asks gives =
      let P : Block → Type 0 = λ x. hear s (Unlock h x) ≡ n in subst P (sym (same_Some d b asks)) (here_gives h _ n here (gives (hear_unlock s b)))
  asked (Unlocked h d) b n here asks gives = cc
  asked (Log h d i es) b n here asks gives =
      let P : Block → Type 0 = λ x. hear s (Log h x i es) ≡ n in subst P (sym (same_Some d b asks)) (here_gives h _ n here (gives (hear_log s b i es)))
  asked (Logged h d i) b n here asks gives = cc
  asked (Answer h d i a) b n here asks gives = cc

  -- ---- tests of a block at its client's mark

  is_newer : (b : Block) (k : Mark) → k.num < b.num → is_new b k ≡ true
  is_newer b k lt = lt-ltb k.num b.num lt

  is_newest : (b : Block) (k : Mark) → k.num ≡ b.num → is_new b k ≡ false
  is_newest b k same = le-ltb k.num b.num (omega (arith, same))

  shut_gives : (b : Block) (k : Mark) → k.stage ≡ AtShut → hear_open s b k ≡ dropped s NotHolder
  shut_gives b k shut = by (is_new b k) refl where
    by : (t : Bool) → is_new b k ≡ t → hear_open s b k ≡ dropped s NotHolder
    by true e = cond-true (is_new b k) _ _ e
    by false e =
        cond-false (is_new b k) _ _ e ∙ cond-false (is_open k.stage) _ _ (ap is_open shut)
        ∙ cond-true (not (is_held k.stage)) _ _ (ap (λ x. not (is_held x)) shut)

  takes : (b : Block) (k : Mark) → IsLogAt s b k → (is_new b k || not (is_open k.stage)) ≡ false
  takes b k at = or_from _ _ (is_newest b k at.num) (ap (λ x. not (is_open x)) at.stage)

  -- entries of which some are new come to the tests after these
  next_is : (b : Block) (i : ℕ) (es : List Entry) (k : Mark) (n : Hearing) → IsLogAt s b k → IsNext k i es
      → cond (is_closed k (last_number i es) es) (dropped s NotOpen)
      (cond (has_no_room s b (length (new_entries i es k))) (dropped s PendingFull) (took s b i es k)) ≡ n → hear_log s b i es k ≡ n
  next_is b i es k n at next is =
      cond-false (is_new b k || not (is_open k.stage)) _ _ (takes b k at)
      ∙ cond-false (nat_le (last_number i es) k.received) _ _ (lt-leb (last_number i es) k.received next.new)
      ∙ cond-false (nat_lt (k.received + 1) i) _ _ (le-ltb (k.received + 1) i next.no_gap) ∙ is

  before_is : (b : Block) (i : ℕ) (es : List Entry) (k : Mark) (n : Hearing) → IsLogAt s b k → last_number i es ≤ k.received
      → received_before s b (last_number i es) k (kept_answer (last_number i es) k.kept) ≡ n → hear_log s b i es k ≡ n
  before_is b i es k n at before is =
      cond-false (is_new b k || not (is_open k.stage)) _ _ (takes b k at)
      ∙ cond-true (nat_le (last_number i es) k.received) _ _ (le-leb (last_number i es) k.received before) ∙ is

  not_taking : (b : Block) (k : Mark) → (k.num < b.num) ⊎ (k.stage ≢ AtOpen) → (is_new b k || not (is_open k.stage)) ≡ true
  not_taking b k (inl newer) = or_left _ _ (is_newer b k newer)
  not_taking b k (inr shut) = or_right _ _ (not_open k.stage shut)

  -- ---- every row

  row_gives : (m : Message) (n : Hearing) → Row s m n → hear s m ≡ n
  row_gives m n (kind_for_clients x is) = to_clients m is
  row_gives m n (another_handler x is apart) = to_another m is apart
  row_gives m n (too_many_clients h c inc here none full) =
      here_gives h _ n here (ap (hear_hello s c inc) none ∙ cond-true (length s.marks == MAX_MARKS) _ _ (eq-eqb (length s.marks) MAX_MARKS full))
  row_gives m n (first_greeting h c inc here none room) =
      here_gives h _ n here (ap (hear_hello s c inc) none ∙ cond-false (length s.marks == MAX_MARKS) _ _ (ne_eqb (length s.marks) MAX_MARKS room))
  row_gives m n (newer_greeting h c inc k here found newer) =
      here_gives h _ n here (ap (hear_hello s c inc) found ∙ cond-true (nat_lt k.inc inc) _ _ (lt-ltb k.inc inc newer))
  row_gives m n (repeated_greeting h c inc k here found same) =
      here_gives h _ n here
      (ap (hear_hello s c inc) found ∙ cond-false (nat_lt k.inc inc) _ _ (le-ltb k.inc inc (omega (arith, same)))
      ∙ cond-true (k.inc == inc) _ _ (eq-eqb k.inc inc same))
  row_gives m n (stale_greeting h c inc k here found older) =
      here_gives h _ n here
      (ap (hear_hello s c inc) found ∙ cond-false (nat_lt k.inc inc) _ _ (le-ltb k.inc inc (omega (arith, older)))
      ∙ cond-false (k.inc == inc) _ _ (ne_eqb k.inc inc (λ same. omega (arith, older, same))))
  row_gives m n (ungreeted x b here asks out) = asked m b n here asks (λ heard. ungreeted_gives b heard out)
  row_gives m n (stale x b k here asks found is) = asked m b n here asks (λ heard. past_gives b k heard found is)
  row_gives m n (lock_granted h b k here at newer free clear) =
      lock_is h b k n here at
      (cond-true (is_new b k && (is_none s.holder && not (is_unfinished s k))) _ _
      (and_from _ _ (is_newer b k newer) (and_from _ _ (ap is_none free) (ap not clear))))
  row_gives m n (lock_refused h b k here at newer taken) =
      lock_is h b k n here at
      (cond-false (is_new b k && (is_none s.holder && not (is_unfinished s k))) _ _ (and_right _ _ taken) ∙ cond-true (is_new b k) _ _ (is_newer b k newer))
  row_gives m n (repeated_lock h b k here at same held) =
      lock_is h b k n here at
      (cond-false (is_new b k && (is_none s.holder && not (is_unfinished s k))) _ _ (and_left _ _ (is_newest b k same))
      ∙ cond-false (is_new b k) _ _ (is_newest b k same)
      ∙ cond-true (is_held k.stage) _ _ (ap is_held held))
  row_gives m n (late_lock h b k here at same other) =
      lock_is h b k n here at
      (cond-false (is_new b k && (is_none s.holder && not (is_unfinished s k))) _ _ (and_left _ _ (is_newest b k same))
      ∙ cond-false (is_new b k) _ _ (is_newest b k same)
      ∙ cond-false (is_held k.stage) _ _ (not_held k.stage other))
  row_gives m n (open_without_lock h b k here at (inl newer)) = open_is h b k n here at (cond-true (is_new b k) _ _ (is_newer b k newer))
  row_gives m n (open_without_lock h b k here at (inr shut)) = open_is h b k n here at (shut_gives b k shut)
  row_gives m n (no_room_for_a_queue h b k here at same held full) =
      open_is h b k n here at
      (cond-false (is_new b k) _ _ (is_newest b k same) ∙ cond-false (is_open k.stage) _ _ (ap is_open held)
      ∙ cond-false (not (is_held k.stage)) _ _ (ap (λ x. not (is_held x)) held)
      ∙ cond-true (length s.queues == MAX_QUEUES) _ _ (eq-eqb (length s.queues) MAX_QUEUES full))
  row_gives m n (is_opened h b k here at same held room) =
      open_is h b k n here at
      (cond-false (is_new b k) _ _ (is_newest b k same) ∙ cond-false (is_open k.stage) _ _ (ap is_open held)
      ∙ cond-false (not (is_held k.stage)) _ _ (ap (λ x. not (is_held x)) held)
      ∙ cond-false (length s.queues == MAX_QUEUES) _ _ (ne_eqb (length s.queues) MAX_QUEUES room))
  row_gives m n (repeated_open h b k here at same is) =
      open_is h b k n here at (cond-false (is_new b k) _ _ (is_newest b k same) ∙ cond-true (is_open k.stage) _ _ (ap is_open is))
  row_gives m n (unlock_while_unfinished h b k here at newer busy) =
      unlock_is h b k n here at (cond-true (is_new b k && is_unfinished s k) _ _ (and_from _ _ (is_newer b k newer) busy))
  row_gives m n (unlock_of_a_block_never_held h b k here at newer clear) =
      unlock_is h b k n here at (cond-false (is_new b k && is_unfinished s k) _ _ (and_right _ _ clear) ∙ cond-true (is_new b k) _ _ (is_newer b k newer))
  row_gives m n (is_freed h b k here at same held) =
      unlock_is h b k n here at
      (cond-false (is_new b k && is_unfinished s k) _ _ (and_left _ _ (is_newest b k same)) ∙ cond-false (is_new b k) _ _ (is_newest b k same)
      ∙ cond-true (is_holder s.holder b) _ _ (holds s.holder b held))
  row_gives m n (repeated_unlock h b k here at same other) =
      unlock_is h b k n here at
      (cond-false (is_new b k && is_unfinished s k) _ _ (and_left _ _ (is_newest b k same)) ∙ cond-false (is_new b k) _ _ (is_newest b k same)
      ∙ cond-false (is_holder s.holder b) _ _ (holds_not s.holder b other))
  row_gives m n (log_of_a_block_not_open h b i es k here at shut) =
      log_is h b i es k n here at (cond-true (is_new b k || not (is_open k.stage)) _ _ (not_taking b k shut))
  row_gives m n (is_answered h b i es k a here at before kept) =
      log_is h b i es k n here at.heard
      (before_is b i es k n at before
      (ap (λ o. received_before s b (last_number i es) k (kept_answer (last_number i es) o)) kept
      ∙ ap (received_before s b (last_number i es) k) (cond-true (last_number i es == last_number i es) (Some a) None
      (eq-eqb (last_number i es) (last_number i es) refl))))
  row_gives m n (already_received h b i es k here at before none) =
      log_is h b i es k n here at.heard (before_is b i es k n at before (ap (received_before s b (last_number i es) k) none))
  row_gives m n (has_gap h b i es k here at new gap) =
      log_is h b i es k n here at.heard
      (cond-false (is_new b k || not (is_open k.stage)) _ _ (takes b k at)
      ∙ cond-false (nat_le (last_number i es) k.received) _ _ (lt-leb (last_number i es) k.received new)
      ∙ cond-true (nat_lt (k.received + 1) i) _ _ (lt-ltb (k.received + 1) i gap))
  row_gives m n (after_the_end h b i es k here at next shut) =
      log_is h b i es k n here at.heard (next_is b i es k n at next (cond-true (is_closed k (last_number i es) es) _ _ shut))
  row_gives m n (pending_full h b i es k here at next goes_on full) =
      log_is h b i es k n here at.heard
      (next_is b i es k n at next
      (cond-false (is_closed k (last_number i es) es) _ _ goes_on ∙ cond-true (has_no_room s b (length (new_entries i es k))) _ _ full))
  row_gives m n (is_taken h b i es k here at next goes_on room) =
      log_is h b i es k n here at.heard
      (next_is b i es k n at next
      (cond-false (is_closed k (last_number i es) es) _ _ goes_on ∙ cond-false (has_no_room s b (length (new_entries i es k))) _ _ room))

-- the table gives a message one outcome
pub heard_exactly : (s : HandlerState) (m : Message) (n : Hearing) → (hear s m ≡ n) ↔ Row s m n
heard_exactly s m n = (λ e. subst (Row s m) e (row s m), row_gives s m n)
