-- Every message has its row. `hear` is a nest of tests in the table's order, and `split` goes both ways at each of
-- them. The tests on a way, as facts of the handler and of the client's mark, are the conditions of the row at its end.
use Rattle.std.proofs.Common.{◌≡◌, ◌≢◌, ℕ, ◌+◌, ◌<◌, ◌≤◌, Bool, true, false, cond, ◌==◌, nat_lt, nat_le, ◌&&◌, ◌||◌, not, IsTrue, List, ◌⊎◌, Option, Some, None}
use Rattle.std.proofs.Common.{length, refl, sym, ap, subst, ◌∙◌, inl, inr, arith}
use Rattle.std.specs.Prelude.{is_none}
use Rattle.std.proofs.lemmas.Bool.{and_parts, both_ways, eqb-false, eqb-true, leb-false, leb-true, ltb-false, ltb-true, not-false, not-true, or_cases, or_parts}
use Rattle.std.proofs.lemmas.Bool.Decides.{nat_tests}
use Rattle.scoop_message.specs.declared.limits.TheConstants.{MAX_MARKS, MAX_QUEUES}
use Rattle.scoop_message.specs.declared.name.Block.{Block}
use Rattle.scoop_message.specs.declared.name.ClientId.{ClientId}
use Rattle.scoop_message.specs.declared.name.HandlerId.{HandlerId}
use Rattle.scoop_message.specs.declared.message.Message.{Message}
use Rattle.scoop_message.specs.declared.message.Message.TheVariants.{Hello, Welcome, Lock, Locked, Busy, Open, Opened, Unlock, Unlocked, Log, Logged, Answer}
use Rattle.scoop_message.specs.declared.request.Entry.{Entry}
use Rattle.scoop_message.specs.declared.request.Answer.{Answer as QueryAnswer}
use Rattle.scoop_message.specs.Entries.{last_number}
use Rattle.scoop_message.specs.Message.{same_handler, handler_of, is_for_handler}
use Rattle.scoop_message.proofs.Same.{block_decides, handler_decides}
use Rattle.scoop_handler.specs.declared.mark.Mark.{Mark}
use Rattle.scoop_handler.specs.declared.mark.Stage.{Stage}
use Rattle.scoop_handler.specs.declared.mark.Stage.TheVariants.{Held as AtHeld, Open as AtOpen, Shut as AtShut}
use Rattle.scoop_handler.specs.Marks.{mark_of, is_held, is_open}
use Rattle.scoop_handler.specs.State.{HandlerState, is_holder, is_unfinished}
use Rattle.scoop_handler.specs.Hearing.{Hearing, IsHeardAt, hear, hear_hello, hear_lock, hear_open, hear_unlock, hear_log, hear_of, hear_at, mark_for, if_here}
use Rattle.scoop_handler.specs.Hearing.{is_new, granted, received_before, kept_answer, new_entries, is_closed, has_no_room}
use Rattle.scoop_handler.specs.Rows.{Row, asking_block, IsUngreeted, IsPast, kind_for_clients, another_handler, too_many_clients, first_greeting}
use Rattle.scoop_handler.specs.Rows.{newer_greeting, repeated_greeting, stale_greeting, ungreeted, stale, lock_granted, lock_refused, repeated_lock, late_lock}
use Rattle.scoop_handler.specs.Rows.{open_without_lock, no_room_for_a_queue, is_opened, repeated_open, unlock_while_unfinished, unlock_of_a_block_never_held}
use Rattle.scoop_handler.specs.Rows.{is_freed, repeated_unlock, IsLogAt, IsNext, log_of_a_block_not_open, is_answered, already_received, has_gap, after_the_end}
use Rattle.scoop_handler.specs.Rows.{pending_full, is_taken}

-- ---- tests, and their meaning

-- a choice, by its test
pub split : {A : Type 0} (P : A → Type 0) (t : Bool) (x y : A) → (t ≡ true → P x) → (t ≡ false → P y) → P (cond t x y)
split P true x y then else = then refl
split P false x y then else = else refl

held_from_test : (stage : Stage) → is_held stage ≡ true → stage ≡ AtHeld
held_from_test AtHeld e = refl
held_from_test AtOpen e = cc
held_from_test AtShut e = cc

not_held_from_test : (stage : Stage) → is_held stage ≡ false → stage ≢ AtHeld
not_held_from_test stage e same = both_ways (is_held stage) e (ap is_held same)

open_from_test : (stage : Stage) → is_open stage ≡ true → stage ≡ AtOpen
open_from_test AtHeld e = cc
open_from_test AtOpen e = refl
open_from_test AtShut e = cc

shut_from_tests : (stage : Stage) → is_open stage ≡ false → is_held stage ≡ false → stage ≡ AtShut
shut_from_tests AtHeld e f = cc
shut_from_tests AtOpen e f = cc
shut_from_tests AtShut e f = refl

none_from_test : {X : Type 0} (o : Option X) → is_none o ≡ true → o ≡ None
none_from_test None e = refl
none_from_test (Some x) e = cc

not_open_from_test : (stage : Stage) → not (is_open stage) ≡ true → stage ≢ AtOpen
not_open_from_test stage e same = both_ways (is_open stage) (not-true (is_open stage) e) (ap is_open same)

-- a test that fails beside one that passes
fails_beside : (t u : Bool) → t ≡ true → (t && u) ≡ false → u ≡ false
fails_beside t u is e = sym (ap (λ x. x && u) is) ∙ e

-- a block that isn't new is its mark's
newest_num : (s : HandlerState) (b : Block) (k : Mark) → IsHeardAt s b k → is_new b k ≡ false → k.num ≡ b.num
newest_num s b k at e = let le = ltb-false k.num b.num e in omega (arith, at.num)

-- ---- the holder

pub holder_from_test : (holder : Option Block) (b : Block) → is_holder holder b ≡ true → holder ≡ Some b
holder_from_test None b e = cc
holder_from_test (Some x) b e = ap Some ((block_decides x b).0 e)

pub holds : (holder : Option Block) (b : Block) → holder ≡ Some b → is_holder holder b ≡ true
holds None b e = cc
holds (Some x) b e = let same : x ≡ b = cc in (block_decides x b).1 same

not_holder_from_test : (holder : Option Block) (b : Block) → is_holder holder b ≡ false → holder ≢ Some b
not_holder_from_test holder b e same = both_ways (is_holder holder b) e (holds holder b same)

-- ---- rows of each kind

hello_row : (s : HandlerState) (h : HandlerId) (c : ClientId) (inc : ℕ) (k : Option Mark) → h ≡ s.number → mark_of c s.marks ≡ k
    → Row s (Hello h c inc) (hear_hello s c inc k)
hello_row s h c inc None here is =
    split (Row s (Hello h c inc)) (length s.marks == MAX_MARKS) _ _
    (λ e. too_many_clients h c inc here is (eqb-true (length s.marks) MAX_MARKS e))
    (λ e. first_greeting h c inc here is (eqb-false (length s.marks) MAX_MARKS e))
hello_row s h c inc (Some k) here is =
    split (Row s (Hello h c inc)) (nat_lt k.inc inc) _ _
    (λ below. newer_greeting h c inc k here is (ltb-true k.inc inc below))
    (λ at_least. split (Row s (Hello h c inc)) (k.inc == inc) _ _
    (λ same. repeated_greeting h c inc k here is (eqb-true k.inc inc same))
    (λ apart. stale_greeting h c inc k here is (above at_least apart))) where
      above : nat_lt k.inc inc ≡ false → (k.inc == inc) ≡ false → inc < k.inc
      above e f = grind (arith, nat_tests)

lock_row : (s : HandlerState) (h : HandlerId) (b : Block) (k : Mark) → h ≡ s.number → IsHeardAt s b k → Row s (Lock h b) (hear_lock s b k)
lock_row s h b k here at =
    let P = Row s (Lock h b) in
    split P (is_new b k && (is_none s.holder && not (is_unfinished s k))) _ _ grants
    (λ busy. split P (is_new b k) _ _
    (λ new. lock_refused h b k here at (ltb-true k.num b.num new) (fails_beside (is_new b k) _ new busy))
    (λ old. split P (is_held k.stage) _ _
    (λ held. repeated_lock h b k here at (newest_num s b k at old) (held_from_test k.stage held))
    (λ over. late_lock h b k here at (newest_num s b k at old) (not_held_from_test k.stage over)))) where
      grants : (is_new b k && (is_none s.holder && not (is_unfinished s k))) ≡ true → Row s (Lock h b) (granted s b)
      grants e =
          let t = and_parts _ _ e in
          let u = and_parts _ _ t.1 in
          lock_granted h b k here at (ltb-true k.num b.num t.0) (none_from_test s.holder u.0) (not-true (is_unfinished s k) u.1)

open_row : (s : HandlerState) (h : HandlerId) (b : Block) (k : Mark) → h ≡ s.number → IsHeardAt s b k → Row s (Open h b) (hear_open s b k)
open_row s h b k here at =
    let P = Row s (Open h b) in
    split P (is_new b k) _ _
    (λ new. open_without_lock h b k here at (inl (ltb-true k.num b.num new)))
    (λ old. split P (is_open k.stage) _ _
    (λ again. repeated_open h b k here at (newest_num s b k at old) (open_from_test k.stage again))
    (λ closed. split P (not (is_held k.stage)) _ _
    (λ over. open_without_lock h b k here at (inr (shut_from_tests k.stage closed (not-true (is_held k.stage) over))))
    (λ held. split P (length s.queues == MAX_QUEUES) _ _
    (λ many. no_room_for_a_queue h b k here at (newest_num s b k at old) (held_from_test k.stage (not-false (is_held k.stage) held))
    (eqb-true (length s.queues) MAX_QUEUES many))
    (λ room. is_opened h b k here at (newest_num s b k at old) (held_from_test k.stage (not-false (is_held k.stage) held))
    (eqb-false (length s.queues) MAX_QUEUES room)))))

unlock_row : (s : HandlerState) (h : HandlerId) (b : Block) (k : Mark) → h ≡ s.number → IsHeardAt s b k → Row s (Unlock h b) (hear_unlock s b k)
unlock_row s h b k here at =
    let P = Row s (Unlock h b) in
    split P (is_new b k && is_unfinished s k) _ _
    (λ busy. let t = and_parts _ _ busy in unlock_while_unfinished h b k here at (ltb-true k.num b.num t.0) t.1)
    (λ clear. split P (is_new b k) _ _
    (λ new. unlock_of_a_block_never_held h b k here at (ltb-true k.num b.num new) (fails_beside (is_new b k) _ new clear))
    (λ old. split P (is_holder s.holder b) _ _
    (λ held. is_freed h b k here at (newest_num s b k at old) (holder_from_test s.holder b held))
    (λ free. repeated_unlock h b k here at (newest_num s b k at old) (not_holder_from_test s.holder b free))))

-- entries that were all received
received_row : (s : HandlerState) (h : HandlerId) (b : Block) (n : ℕ) (es : List Entry) (k : Mark) → h ≡ s.number → IsLogAt s b k
    → last_number n es ≤ k.received
    → Row s (Log h b n es) (received_before s b (last_number n es) k (kept_answer (last_number n es) k.kept))
received_row s h b n es k here at before = by_kept k.kept refl where
  by_kept : (kept : Option (ℕ × QueryAnswer)) → k.kept ≡ kept
      → Row s (Log h b n es) (received_before s b (last_number n es) k (kept_answer (last_number n es) kept))
  by_kept None e = already_received h b n es k here at before (ap (kept_answer (last_number n es)) e)
  by_kept (Some kept) e =
      let make : ℕ → Option (ℕ × QueryAnswer) = λ i. Some (i, kept.1) in
      split (λ o. Row s (Log h b n es) (received_before s b (last_number n es) k o)) (kept.0 == last_number n es) (Some kept.1) None
      (λ same. is_answered h b n es k kept.1 here at before (e ∙ ap make (eqb-true kept.0 (last_number n es) same)))
      (λ other. already_received h b n es k here at before (ap (kept_answer (last_number n es)) e ∙ rw other refl))

log_row : (s : HandlerState) (h : HandlerId) (b : Block) (n : ℕ) (es : List Entry) (k : Mark) → h ≡ s.number → IsHeardAt s b k
    → Row s (Log h b n es) (hear_log s b n es k)
log_row s h b n es k here at =
    let P = Row s (Log h b n es) in
    split P (is_new b k || not (is_open k.stage)) _ _
    (λ shut. log_of_a_block_not_open h b n es k here at (not_taking (or_cases _ _ shut)))
    (λ takes. split P (nat_le (last_number n es) k.received) _ _
    (λ before. received_row s h b n es k here (is_at takes) (leb-true (last_number n es) k.received before))
    (λ beyond. split P (nat_lt (k.received + 1) n) _ _
    (λ gap. has_gap h b n es k here (is_at takes) (leb-false (last_number n es) k.received beyond) (ltb-true (k.received + 1) n gap))
    (λ follows. split P (is_closed k (last_number n es) es) _ _
    (λ closed. after_the_end h b n es k here (is_at takes) (is_next beyond follows) closed)
    (λ goes_on. split P (has_no_room s b (length (new_entries n es k))) _ _
    (λ crowded. pending_full h b n es k here (is_at takes) (is_next beyond follows) goes_on crowded)
    (λ room. is_taken h b n es k here (is_at takes) (is_next beyond follows) goes_on room))))) where
      not_taking : (is_new b k ≡ true) ⊎ (not (is_open k.stage) ≡ true) → (k.num < b.num) ⊎ (k.stage ≢ AtOpen)
      not_taking (inl new) = inl (ltb-true k.num b.num new)
      not_taking (inr shut) = inr (not_open_from_test k.stage shut)

      is_at : (is_new b k || not (is_open k.stage)) ≡ false → IsLogAt s b k
      is_at e =
          let t = or_parts _ _ e in
          record { heard = at; num = newest_num s b k at t.0; stage = open_from_test k.stage (not-false (is_open k.stage) t.1) }

      is_next : nat_le (last_number n es) k.received ≡ false → nat_lt (k.received + 1) n ≡ false → IsNext k n es
      is_next e f = record { new = leb-false (last_number n es) k.received e; no_gap = ltb-false (k.received + 1) n f }

-- ---- the row of a message

block_row : (s : HandlerState) (m : Message) (b : Block) (heard : Mark → Hearing) → handler_of m ≡ s.number → asking_block m ≡ Some b
    → ((k : Mark) → IsHeardAt s b k → Row s m (heard k)) → Row s m (hear_of s b heard)
block_row s m b heard here asks row = by_mark (mark_of b.client s.marks) refl where
  by_mark : (k : Option Mark) → mark_of b.client s.marks ≡ k → Row s m (hear_at s (mark_for b k) heard)
  by_mark None is = ungreeted m b here asks (subst (IsUngreeted b) (sym is) tt)
  by_mark (Some k) is =
      split (λ r. Row s m (hear_at s r heard)) (nat_lt k.inc b.inc) _ _
      (λ below. ungreeted m b here asks (subst (IsUngreeted b) (sym is) (ltb-true k.inc b.inc below)))
      (λ greeted. split (λ r. Row s m (hear_at s r heard)) (nat_lt b.inc k.inc || nat_lt b.num k.num) _ _
      (λ late. stale m b k here asks is (is_past greeted late))
      (λ new. row k (record { found = is; inc = same_inc greeted new; num = reached greeted new }))) where
        is_past : nat_lt k.inc b.inc ≡ false → (nat_lt b.inc k.inc || nat_lt b.num k.num) ≡ true → IsPast b k
        is_past e f = grind (arith, nat_tests)

        same_inc : nat_lt k.inc b.inc ≡ false → (nat_lt b.inc k.inc || nat_lt b.num k.num) ≡ false → k.inc ≡ b.inc
        same_inc e f = grind (arith, nat_tests)

        reached : nat_lt k.inc b.inc ≡ false → (nat_lt b.inc k.inc || nat_lt b.num k.num) ≡ false → k.num ≤ b.num
        reached e f = grind (arith, nat_tests)

here_row : (s : HandlerState) (m : Message) (h : HandlerId) (heard : Hearing) → IsTrue (is_for_handler m) → handler_of m ≡ h → (h ≡ s.number → Row s m heard)
    → Row s m (if_here s h heard)
here_row s m h heard to_handler names row =
    split (Row s m) (same_handler h s.number) _ _
    (λ same. row ((handler_decides h s.number).0 same))
    (λ apart. another_handler m to_handler (λ e. both_ways _ apart ((handler_decides h s.number).1 (sym names ∙ e))))

pub row : (s : HandlerState) (m : Message) → Row s m (hear s m)
row s (Hello h c inc) = here_row s (Hello h c inc) h _ refl refl (λ here. hello_row s h c inc (mark_of c s.marks) here refl)
row s (Welcome h c inc) = kind_for_clients (Welcome h c inc) refl
row s (Lock h b) = here_row s (Lock h b) h _ refl refl (λ here. block_row s (Lock h b) b (hear_lock s b) here refl (λ k at. lock_row s h b k here at))
row s (Locked h b) = kind_for_clients (Locked h b) refl
row s (Busy h b) = kind_for_clients (Busy h b) refl
row s (Open h b) = here_row s (Open h b) h _ refl refl (λ here. block_row s (Open h b) b (hear_open s b) here refl (λ k at. open_row s h b k here at))
row s (Opened h b) = kind_for_clients (Opened h b) refl
row s (Unlock h b) = here_row s (Unlock h b) h _ refl refl (λ here. block_row s (Unlock h b) b (hear_unlock s b) here refl (λ k at. unlock_row s h b k here at))
row s (Unlocked h b) = kind_for_clients (Unlocked h b) refl
row s (Log h b n es) = here_row s (Log h b n es) h _ refl refl
    (λ here. block_row s (Log h b n es) b (hear_log s b n es) here refl (λ k at. log_row s h b n es k here at))
row s (Logged h b n) = kind_for_clients (Logged h b n) refl
row s (Answer h b n a) = kind_for_clients (Answer h b n a) refl
