-- The effect of each case of the handler's table on its slots.
use Rattle.scoop_model.proofs.Names.{◌≡◌, ℕ, ◌+◌, List, [], ◌∷◌, ◌++◌, Some, refl, sym, ap, ◌∙◌, subst, arith, append-nil, if◌then◌else◌, length, ◌-◌}
use Rattle.scoop_model.proofs.Names.{append_assoc, drop, length-append, same_Some, none-some, AllByRecursion, same_block, Message, Log, Block, HandlerId, Entry}
use Rattle.scoop_model.proofs.Names.{same_block-true, PrivateQueue, put_all, QueueState, by_test, all_both, block_of-same, Hearing, new_entries, block_of}
use Rattle.scoop_model.proofs.Names.{mark_of, Row, newer_greeting, is_opened, is_taken, IsLogAt, IsNext, HandlerState, IsState, FitsMark, FitsNewest, HasMark}
use Rattle.scoop_model.proofs.Names.{Mark, newly_opened}
use Rattle.scoop_model.proofs.Stands.{Stands}
use Rattle.scoop_model.proofs.Tape.Slots.{slot_cases, Slot, slot_of, slot_queue, queues_of, slots_new, slots_put, put_in, put_slot, slots_cut}
use Rattle.scoop_model.proofs.Tape.Fits.{IsBeginningOf, IsBegun, TapeFits, open_tape, cut_tape, put_tape, beginning_next}

-- the slots after a row
abbrev pub slots_after : (s : HandlerState) (m : Message) (h : Hearing) → Row s m h → List Slot → List Slot
slots_after s m h (newer_greeting x c inc k here found newer) ss = slots_cut (block_of k) ss
slots_after s m h (is_opened x b k here at same held room) ss = slots_new b ss
slots_after s m h (is_taken x b n es k here at next goes_on room) ss = slots_put b (new_entries n es k) ss
slots_after s m h r ss = ss

-- ---- the private queues, as those of their slots

pub record InQueue (P : PrivateQueue → Type 0) (s : Slot) : Type 0 where
  pub has : (t : QueueState) → s.state ≡ Some t → P (slot_queue s t)

pub each_queue : (P : PrivateQueue → Type 0) (ss : List Slot) → AllByRecursion P (queues_of ss) → AllByRecursion (InQueue P) ss
each_queue P [] all = tt
each_queue P (s ∷ ss) all =
    slot_cases (λ s. AllByRecursion P (queues_of (s ∷ ss)) → AllByRecursion (InQueue P) (s ∷ ss))
    (λ b ran rest all. (record { has = λ t e. absurd (none-some _ e) }, each_queue P ss all))
    (λ b ran rest u all.
    (record { has = λ t e. subst (λ v. P (slot_queue (slot_of b ran rest (Some u)) v)) (same_Some u t e) all.0 }, each_queue P ss all.1)) s all

-- ---- a Log is taken

-- entries that were received of the client's newest block
received_in : (s : Slot) (t : QueueState) (k : Mark) → FitsNewest (slot_queue s t) k → k.received ≡ length (s.ran ++ s.rest)
received_in s t k fits = let next = fits.received in omega (arith, next, length-append s.ran s.rest)

module _ (log : Block → List Entry) (s : HandlerState) (b : Block) (n : ℕ) (es : List Entry) (k : Mark) (at : IsLogAt s b k) (next : IsNext k n es)
    (st : Stands (log b) n es) where
  grown : (c : Block) (ran rest : List Entry) (u : QueueState) → b ≡ c → IsBegun log (slot_of c ran rest (Some u))
      → HasMark s.marks (slot_queue (slot_of c ran rest (Some u)) u)
      → IsBegun log (put_slot (new_entries n es k) (slot_of c ran rest (Some u)) u)
  grown c ran rest u is i has =
      let there : mark_of c.client s.marks ≡ Some k = subst (λ (d : Block). mark_of d.client s.marks ≡ Some k) is at.heard.found in
      let one : has.mark ≡ k = same_Some has.mark k (sym has.found ∙ there) in
      let fits = (subst (FitsMark (slot_queue (slot_of c ran rest (Some u)) u)) one has.fits).newest (block_of-same s b k at.heard at.num ∙ is) in
      let count : k.received ≡ length (ran ++ rest) = received_in (slot_of c ran rest (Some u)) u k fits in
      let gap = next.no_gap in
      let new = next.new in
      let more = beginning_next (ran ++ rest) (log c) n es i (subst (λ d. Stands (log d) n es) is st) (omega (arith, gap, count)) (omega (arith, new, count)) in
      subst (λ xs. IsBeginningOf xs (log c)) (append_assoc ran rest (drop (length (ran ++ rest) + 1 - n) es)
      ∙ ap (λ j. ran ++ (rest ++ drop (j + 1 - n) es)) (sym count)) more

  put_begun : (t : Slot) → IsBegun log t → InQueue (HasMark s.marks) t → IsBegun log (put_in b (new_entries n es k) t)
  put_begun =
      slot_cases (λ t. IsBegun log t → InQueue (HasMark s.marks) t → IsBegun log (put_in b (new_entries n es k) t)) (λ c ran rest i has. i)
      (λ c ran rest u i has.
      by_test (λ y. IsBegun log (if y then put_slot (new_entries n es k) (slot_of c ran rest (Some u)) u else slot_of c ran rest (Some u))) (same_block b c)
      (λ same. grown c ran rest u (same_block-true b c same) i (has.has u refl))
      (λ other. i))

  take_tape : (bs : List Block) (rs : List (Block × ℕ × Entry)) (ss : List Slot) → IsState s → TapeFits log s.queues bs rs ss
      → TapeFits log (put_all b (new_entries n es k) s.queues) bs rs (slots_put b (new_entries n es k) ss)
  take_tape bs rs ss is f =
      put_tape log s.queues bs rs ss f b (new_entries n es k) is.queues.apart
      (all_both (IsBegun log) (InQueue (HasMark s.marks)) (λ t. IsBegun log (put_in b (new_entries n es k) t)) put_begun ss f.begun
      (each_queue (HasMark s.marks) ss (subst (AllByRecursion (HasMark s.marks)) f.queues is.marked)))

-- ---- every row

-- the entries of a Log stand in the log of its block
abbrev pub StandsIfLog : (Block → List Entry) → Message → Type 0
StandsIfLog log m = (h : HandlerId) (b : Block) (n : ℕ) (es : List Entry) → m ≡ Log h b n es → Stands (log b) n es

same_opened : (log : Block → List Entry) (qs : List PrivateQueue) (bs : List Block) (rs : List (Block × ℕ × Entry)) (ss : List Slot)
    → TapeFits log qs bs rs ss → TapeFits log qs (bs ++ []) rs ss
same_opened log qs bs rs ss f = subst (λ xs. TapeFits log qs xs rs ss) (sym (append-nil bs)) f

pub row_tape :
    (log : Block → List Entry) (s : HandlerState) (m : Message) (h : Hearing) (r : Row s m h) (bs : List Block) (rs : List (Block × ℕ × Entry)) (ss : List Slot)
    → IsState s → StandsIfLog log m → TapeFits log s.queues bs rs ss → TapeFits log h.0.queues (bs ++ newly_opened h.1.note) rs (slots_after s m h r ss)
row_tape log s m h (newer_greeting x c inc k here found newer) bs rs ss is st f =
    same_opened log _ bs rs _ (cut_tape log s.queues bs rs ss f (block_of k) is.queues.apart)
row_tape log s m h (is_opened x b k here at same held room) bs rs ss is st f = open_tape log s.queues bs rs ss f b
row_tape log s m h (is_taken x b n es k here at next goes_on room) bs rs ss is st f =
    same_opened log _ bs rs _ (take_tape log s b n es k at next (st x b n es refl) bs rs ss is f)
row_tape log s m h r bs rs ss is st f = same_opened log s.queues bs rs ss f
