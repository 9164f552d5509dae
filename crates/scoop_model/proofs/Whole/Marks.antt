-- The claims that a handler has sent about its marks: each newer incarnation was welcomed, and each count of received entries is the
-- greatest one that was sent. Every case of the table keeps them.
use Rattle.scoop_model.proofs.Names.{◌≡◌, ℕ, ◌<◌, List, [], ◌∷◌, ◌++◌, map, Some, None, refl, sym, ap, ◌∙◌, subst, arith, ◌≤◌, true, false, true≢false, Bool}
use Rattle.scoop_model.proofs.Names.{option_to_list, cases_eq, AllByRecursion, last_number, ends, same_block, same_client, Message, Welcome, Logged, Block}
use Rattle.scoop_model.proofs.Names.{ClientId, HandlerId, MarksGrow-after, by_test, All-mark_of, All-set_mark, All-add_mark, mark_of-client, same_client-refl}
use Rattle.scoop_model.proofs.Names.{block_of-same, grows-row, MarksGrow, Hearing, greeting_mark, block_of, fresh_mark, with_received, set_mark, mark_of}
use Rattle.scoop_model.proofs.Names.{add_mark, Row, first_greeting, newer_greeting, lock_granted, is_opened, unlock_of_a_block_never_held, is_freed, is_taken}
use Rattle.scoop_model.proofs.Names.{already_received, mark_after, HandlerState, Mark, AtHeld, AtShut, Took, Ran, all_mapped, count_in, greatest_count}
use Rattle.scoop_model.proofs.Names.{false_from_ne_true}
use Rattle.scoop_handler.specs.declared.mark.Stage.{Stage}
use Rattle.scoop_model.proofs.Order.{IsReachedIn, Upto, upto_itself, reached_more, all_more_of, same_block_is, same_block_itself}
use Rattle.scoop_model.proofs.Whole.Sent.{IsGreeted, TellsAlike, alike_more, count_itself, count_other, greatest_new, greatest_stays, greeted_last}
use Rattle.scoop_model.proofs.Whole.Sent.{greeted_more}

-- ---- one mark

-- each block of an older incarnation has been succeeded, and the greatest count of the mark's block is what was received
pub record MarkTold (ms : List Message) (h : HandlerId) (k : Mark) : Type 0 where
  pub greeted : (b : Block) → b.client ≡ k.client → b.inc < k.inc → IsGreeted h b ms
  pub received : greatest_count h (block_of k) ms ≡ k.received

-- counts were sent only of blocks that their clients' marks have reached
pub record MarksTold (ms : List Message) (h : HandlerId) (marks : List Mark) : Type 0 where
  pub each : AllByRecursion (MarkTold ms h) marks
  pub reached : (b : Block) → 0 < greatest_count h b ms → IsReachedIn marks b

told_alike : (ms ns : List Message) (h : HandlerId) → TellsAlike h ms ns → (k : Mark) → MarkTold ms h k → MarkTold ns h k
told_alike ms ns h same k t = record {
  greeted = λ b own newer. same.greeted b (t.greeted b own newer);
  received = same.counted (block_of k) ∙ t.received;
}

reached_alike :
    (ms ns : List Message) (h : HandlerId) (marks : List Mark) → TellsAlike h ms ns → ((b : Block) → 0 < greatest_count h b ms → IsReachedIn marks b)
    → (b : Block) → 0 < greatest_count h b ns → IsReachedIn marks b
reached_alike ms ns h marks same all b some = all b (let e = same.counted b in omega (arith, e, some))

-- messages that tell nothing new of the handler leave it
pub marks_alike : (ms ns : List Message) (h : HandlerId) (marks : List Mark) → TellsAlike h ms ns → MarksTold ms h marks → MarksTold ns h marks
marks_alike ms ns h marks same t = grind (arith, all_more_of, told_alike, reached_alike)

-- ---- a block that isn't reached has no count

none_counted : (ms : List Message) (h : HandlerId) (marks : List Mark) (b : Block) → ((x : Block) → 0 < greatest_count h x ms → IsReachedIn marks x)
    → (IsReachedIn marks b → ⊥) → greatest_count h b ms ≡ 0
none_counted ms h marks b all past = grind (arith, cases_eq)

-- no mark of the client, or one that is below the block
pub not_reached : (marks : List Mark) (b : Block) (k : Mark) → mark_of b.client marks ≡ Some k → (Upto b.inc b.num k.inc k.num → ⊥) → IsReachedIn marks b → ⊥
not_reached marks b k found below r = grind arith

pub none_reached : (marks : List Mark) (b : Block) → mark_of b.client marks ≡ None → IsReachedIn marks b → ⊥
none_reached marks b none r = let both : None ≡ Some r.mark = sym none ∙ r.found in cc

-- a newer incarnation, or a newer block of the same one
pub newer_inc : (b : Block) (k : Mark) → k.inc < b.inc → Upto b.inc b.num k.inc k.num → ⊥
newer_inc b k newer u = let le = u.inc in omega (arith, newer, le)

pub newer_num : (b : Block) (k : Mark) → k.inc ≡ b.inc → k.num < b.num → Upto b.inc b.num k.inc k.num → ⊥
newer_num b k inc newer u = let le = u.num inc in omega (arith, newer, le)

clients_apart : (c d : ClientId) → same_client c d ≡ false → d ≡ c → ⊥
clients_apart c d e p = true≢false (sym (subst (λ x. same_client c x ≡ true) (sym p) (same_client-refl c)) ∙ e)

blocks_apart : (b x : Block) → same_block b x ≡ false → b ≡ x → ⊥
blocks_apart b x e p = true≢false (sym (subst (λ y. same_block b y ≡ true) p (same_block_itself b)) ∙ e)

zero_le : (n : ℕ) → 0 ≤ n
zero_le n = omega arith

-- ---- what one mark tells once it moves

-- the handler's marks stay at the same blocks and counts
same_mark : (ms : List Message) (h : HandlerId) (k x : Mark) → x.client ≡ k.client → x.inc ≡ k.inc → x.num ≡ k.num → x.received ≡ k.received → MarkTold ms h k
    → MarkTold ms h x
same_mark ms h k x client inc num received t = grind arith

-- a mark that comes to a newer block of its incarnation
next_mark : (ms : List Message) (h : HandlerId) (marks : List Mark) (b : Block) (k : Mark) (stage : Stage) → mark_of b.client marks ≡ Some k → k.inc ≡ b.inc
    → k.num < b.num
    → MarksTold ms h marks → MarkTold ms h (fresh_mark b stage)
next_mark ms h marks b k stage found inc newer t =
    let old = All-mark_of (MarkTold ms h) b.client marks k t.each found in
    record {
      greeted = λ x own below. old.greeted x (own ∙ sym (mark_of-client b.client marks k found)) (let e = inc in omega (arith, below, e));
      received = none_counted ms h marks b t.reached (not_reached marks b k found (newer_num b k inc newer));
    }

-- a mark of a newer incarnation, which is welcomed
greeted_mark : (ms : List Message) (h : HandlerId) (marks : List Mark) (c : ClientId) (inc : ℕ) → (IsReachedIn marks (block_of (greeting_mark c inc)) → ⊥)
    → MarksTold ms h marks → MarkTold (ms ++ Welcome h c inc ∷ []) h (greeting_mark c inc)
greeted_mark ms h marks c inc past t = record {
  greeted = λ b own newer. greeted_last h b ms c inc own newer;
  received = greatest_stays h (block_of (greeting_mark c inc)) ms (Some (Welcome h c inc)) (omega arith)
      ∙ none_counted ms h marks (block_of (greeting_mark c inc)) t.reached past;
}

-- ---- one more count is sent

pub block_reached : (marks : List Mark) (b : Block) (k : Mark) → mark_of b.client marks ≡ Some k → block_of k ≡ b → IsReachedIn marks b
block_reached marks b k found same = grind (arith, upto_itself)

-- the block's count goes on from what was received to the last, and the others stay
pub record IsMoreTold (ms ns : List Message) (h : HandlerId) (b : Block) (k : Mark) (last : ℕ) : Type 0 where
  pub was : greatest_count h b ms ≡ k.received
  pub own : greatest_count h b ns ≡ last
  pub others : (x : Block) → same_block b x ≡ false → greatest_count h x ns ≡ greatest_count h x ms

module _ (ms : List Message) (s : HandlerState) (b : Block) (k : Mark) (last : ℕ) (found : mark_of b.client s.marks ≡ Some k) (same : block_of k ≡ b)
    (new : k.received < last) (t : MarksTold ms s.number s.marks) where
  abbrev ns : List Message
  ns = ms ++ Logged s.number b last ∷ []

  old : MarkTold ms s.number k
  old = All-mark_of (MarkTold ms s.number) b.client s.marks k t.each found

  count_was : greatest_count s.number b ms ≡ k.received
  count_was = ap (λ y. greatest_count s.number y ms) (sym same) ∙ old.received

  pub count_more : IsMoreTold ms ns s.number b k last
  count_more = record {
    was = count_was;
    own = greatest_new s.number b ms last (let e = count_was in let lt = new in omega (arith, e, lt));
    others = λ x apart. greatest_stays s.number x ms (Some (Logged s.number b last))
        (let e = count_other s.number s.number b x last (λ _ p. blocks_apart b x apart p) in omega (arith, e));
  }

  taken_mark : (ended : Bool) → MarkTold ns s.number (with_received last ended k)
  taken_mark ended = record {
    greeted = λ x own newer. greeted_more s.number x ms (Some (Logged s.number b last)) (old.greeted x own newer);
    received = ap (λ y. greatest_count s.number y ns) same ∙ count_more.own;
  }

  other_mark : (x : Mark) → same_client x.client k.client ≡ false → MarkTold ms s.number x → MarkTold ns s.number x
  other_mark x apart m = record {
    greeted = λ y own newer. greeted_more s.number y ms (Some (Logged s.number b last)) (m.greeted y own newer);
    received = count_more.others (block_of x) (other_block x apart) ∙ m.received;
  }
    where
      other_block : (x : Mark) → same_client x.client k.client ≡ false → same_block b (block_of x) ≡ false
      other_block x apart =
          false_from_ne_true (same_block b (block_of x)) (λ is. clients_apart x.client k.client apart (ap (λ (y : Block). y.client) (same ∙ same_block_is b (block_of x) is)))

  taken_reached : (marks : List Mark) → MarksGrow s.marks marks → (x : Block) → 0 < greatest_count s.number x ns → IsReachedIn marks x
  taken_reached marks grows x some =
      reached_more s.marks marks x grows (
      by_test (λ _. IsReachedIn s.marks x) (same_block b x)
      (λ is. subst (IsReachedIn s.marks) (same_block_is b x is) (block_reached s.marks b k found same))
      (λ is. t.reached x (let e = count_more.others x is in omega (arith, e, some))))

  taken_told : (ended : Bool) → MarksGrow s.marks (set_mark (with_received last ended k) s.marks)
      → MarksTold ns s.number (set_mark (with_received last ended k) s.marks)
  taken_told ended grows = record {
    each = All-set_mark (MarkTold ms s.number) (MarkTold ns s.number) (with_received last ended k) s.marks (taken_mark ended) other_mark t.each;
    reached = taken_reached (set_mark (with_received last ended k) s.marks) grows;
  }

-- ---- the messages after each case

-- a reply tells nothing new, unless entries are taken
pub alike-row :
    (ms : List Message) (s : HandlerState) (m : Message) (h : Hearing) → Row s m h → MarksTold ms s.number s.marks → ((n : ℕ) → h.1.note ≡ Took n → ⊥)
    → TellsAlike s.number ms (ms ++ option_to_list h.1.reply)
alike-row ms s m h (is_taken x b n es k here at next goes_on room) t quiet = absurd (quiet (last_number n es) refl)
alike-row ms s m h (already_received x b n es k here at before none) t quiet = alike_more s.number ms (Some (Logged s.number b k.received)) not_above
  where
    same : block_of k ≡ b
    same = block_of-same s b k at.heard at.num

    not_above : (y : Block) → count_in s.number y (Logged s.number b k.received) ≤ greatest_count s.number y ms
    not_above y =
        by_test (λ _. count_in s.number y (Logged s.number b k.received) ≤ greatest_count s.number y ms) (same_block b y)
        (λ is.
        let one : block_of k ≡ y = same ∙ same_block_is b y is in
        let told : greatest_count s.number y ms ≡ k.received =
        ap (λ z. greatest_count s.number z ms) (sym one) ∙ (All-mark_of (MarkTold ms s.number) b.client s.marks k t.each at.heard.found).received in
        let own : count_in s.number y (Logged s.number b k.received) ≡ k.received =
        ap (λ z. count_in s.number y (Logged s.number z k.received)) (same_block_is b y is) ∙ count_itself s.number y k.received in
        omega (arith, told, own))
        (λ is. let none = count_other s.number s.number b y k.received (λ _ e. blocks_apart b y is e) in omega (arith, none))
alike-row ms s m h r t quiet = alike_more s.number ms h.1.reply (λ b. zero_le (greatest_count s.number b ms))

-- the marks change and no message says anything new
module _ (ms ns : List Message) (h : HandlerId) (marks news : List Mark) (alike : TellsAlike h ms ns) (grows : MarksGrow marks news)
    (t : MarksTold ms h marks) where
  now : MarksTold ns h marks
  now = marks_alike ms ns h marks alike t

  marks_moved : AllByRecursion (MarkTold ns h) news → MarksTold ns h news
  marks_moved all = record { each = all; reached = λ b some. reached_more marks news b grows (now.reached b some) }

  -- one mark changes
  mark_moved : (k : Mark) → news ≡ set_mark k marks → MarkTold ns h k → MarksTold ns h news
  mark_moved k is one = grind (arith, marks_moved, All-set_mark, now)

  -- a mark more
  mark_added : (k : Mark) → news ≡ add_mark k marks → MarkTold ns h k → MarksTold ns h news
  mark_added k is one = grind (arith, marks_moved, All-add_mark, now)

  found_told : (b : Block) (k : Mark) → mark_of b.client marks ≡ Some k → MarkTold ns h k
  found_told b k found = All-mark_of (MarkTold ns h) b.client marks k now.each found

-- the marks after a row whose reply says nothing new unless entries are taken
told_by :
    (ms : List Message) (s : HandlerState) (m : Message) (h : Hearing) → Row s m h
    → (((n : ℕ) → h.1.note ≡ Took n → ⊥) → TellsAlike s.number ms (ms ++ option_to_list h.1.reply)) → MarksGrow s.marks h.0.marks
    → MarksTold ms s.number s.marks → MarksTold (ms ++ option_to_list h.1.reply) s.number h.0.marks
told_by ms s m h (first_greeting x c inc here none room) alike grows t = grind (arith, mark_added, greeted_mark, none_reached)
told_by ms s m h (newer_greeting x c inc k here found newer) alike grows t = grind (arith, mark_moved, greeted_mark, not_reached, newer_inc)
told_by ms s m h (lock_granted x b k here at new free clear) alike grows t =
    mark_moved ms _ s.number s.marks _ (alike (λ n e. cc)) grows t (fresh_mark b AtHeld) refl
    (next_mark _ s.number s.marks b k AtHeld at.found at.inc new (marks_alike ms _ s.number s.marks (alike (λ n e. cc)) t))
told_by ms s m h (is_opened x b k here at same held room) alike grows t = grind (arith, mark_moved, same_mark, found_told)
told_by ms s m h (unlock_of_a_block_never_held x b k here at new clear) alike grows t =
    mark_moved ms _ s.number s.marks _ (alike (λ n e. cc)) grows t (fresh_mark b AtShut) refl
    (next_mark _ s.number s.marks b k AtShut at.found at.inc new (marks_alike ms _ s.number s.marks (alike (λ n e. cc)) t))
told_by ms s m h (is_freed x b k here at same holds) alike grows t = grind (arith, mark_moved, same_mark, found_told)
told_by ms s m h (is_taken x b n es k here at next goes_on room) alike grows t =
    taken_told ms s b k (last_number n es) at.heard.found (block_of-same s b k at.heard at.num) next.new t (ends es) grows
told_by ms s m h r alike grows t = marks_alike ms (ms ++ option_to_list h.1.reply) s.number s.marks (alike (λ n e. absurd (let f = e in cc))) t

pub marks_told-row : (ms : List Message) (s : HandlerState) (m : Message) (h : Hearing) → Row s m h → MarksTold ms s.number s.marks
    → MarksTold (ms ++ option_to_list h.1.reply) s.number h.0.marks
marks_told-row ms s m h r t = told_by ms s m h r (alike-row ms s m h r t) (grows-row s m h r) t

-- an entry that runs changes no count
pub marks_told-after : (ms : List Message) (h : HandlerId) (r : Ran) (marks : List Mark) → MarksTold ms h marks → MarksTold ms h (map (mark_after r) marks)
marks_told-after ms h r marks t = record {
  each = all_mapped (mark_after r) (MarkTold ms h) (MarkTold ms h) (λ k m. record { greeted = m.greeted; received = m.received }) marks t.each;
  reached = λ b some. reached_more marks (map (mark_after r) marks) b (MarksGrow-after r marks) (t.reached b some);
}
