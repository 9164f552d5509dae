-- A block whose private queue is gone has run to its End, or a newer incarnation of its client has greeted. The handler has received
-- as many entries of each block as the block's slot has.
use Rattle.scoop_model.proofs.Names.{◌≡◌, ◌+◌, ◌<◌, List, [], ◌∷◌, ◌++◌, map, Some, None, refl, sym, ap, ◌∙◌, subst, arith, Option, true, if◌then◌else◌, false}
use Rattle.scoop_model.proofs.Names.{true≢false, length, Bool, ◌==◌, ◌⊎◌, inl, inr, ⊎_elim, not, length-append, IsTrue, eqb-true, or_cases, AllByRecursion}
use Rattle.scoop_model.proofs.Names.{EndOnlyLast, ends, is_end, same_block, Message, Block, HandlerId, Entry, ends-append, both, goes_with, IsQueue, QueueState}
use Rattle.scoop_model.proofs.Names.{TakesMore as Open, Ended, MarksGrow-after, by_test, all_both, mark_of-client, MarksGrow, block_of, mark_of, mark_after}
use Rattle.scoop_model.proofs.Names.{HasMark, Mark, Ran, all_mapped, some_same, greatest_count}
use Rattle.scoop_queue.specs.Queue.{is_open}
use Rattle.scoop_model.proofs.Order.{IsReachedIn, reached_more, same_block_is}
use Rattle.scoop_model.proofs.Tape.{slot_cases, InQueue, each_queue, Slot, slot_of, new_slot, put_slot, put_in, slots_put, state_cut, cut_in, slots_cut}
use Rattle.scoop_model.proofs.Tape.{run_rest, slots_run, slot_queue, queues_of, each_run}

-- ---- what the marks tell of a block

-- the first place after all blocks of the block's incarnation
abbrev next_incarnation : Block → Block
next_incarnation b = record { client = b.client; inc = b.inc + 1; num = 0 }

-- the client is in a newer incarnation than the block's
abbrev pub IsPassed : List Mark → Block → Type 0
IsPassed marks b = IsReachedIn marks (next_incarnation b)

-- where the block is its client's newest, it has ended
abbrev pub HasEnded : List Mark → Block → Type 0
HasEnded marks b = (k : Mark) → mark_of b.client marks ≡ Some k → block_of k ≡ b → k.ended ≡ true

-- a block of an older incarnation isn't the client's newest
passed_ended : (marks : List Mark) (b : Block) → IsPassed marks b → HasEnded marks b
passed_ended marks b p k found own = grind arith

pub passed_from : (marks : List Mark) (b : Block) (k : Mark) → mark_of b.client marks ≡ Some k → b.inc < k.inc → IsPassed marks b
passed_from marks b k found newer = record { mark = k; found = found; upto = record { inc = omega (arith, newer); num = λ e. omega arith } }

-- a block that has ended stays so, however the marks grow
ended_more : (old new : List Mark) (b : Block) → MarksGrow old new → IsReachedIn old b → HasEnded old b → HasEnded new b
ended_more old new b grows r has x found own = grind (arith, some_same, mark_of-client)

-- ---- one slot

abbrev pub takes_more : Option QueueState → Bool
takes_more None = false
takes_more (Some t) = is_open t

-- a block with no private queue left has nothing pending, and has ended or been succeeded
pub record IsDone (marks : List Mark) (t : Slot) : Type 0 where
  pub rest : t.rest ≡ []
  pub whole : IsTrue (ends t.ran) ⊎ IsPassed marks t.block

pub record SlotWhole (ms : List Message) (h : HandlerId) (marks : List Mark) (t : Slot) : Type 0 where
  pub reached : IsReachedIn marks t.block
  pub ended : takes_more t.state ≡ false → HasEnded marks t.block
  pub gone : t.state ≡ None → IsDone marks t
  pub received : greatest_count h t.block ms ≡ length t.ran + length t.rest

pub slot_more :
    (ms ns : List Message) (h : HandlerId) (old new : List Mark) (t : Slot) → MarksGrow old new → greatest_count h t.block ns ≡ greatest_count h t.block ms
    → SlotWhole ms h old t → SlotWhole ns h new t
slot_more ms ns h old new t grows same w = record {
  reached = reached_more old new t.block grows w.reached;
  ended = λ off. ended_more old new t.block grows w.reached (w.ended off);
  gone = λ none. (
      let d = w.gone none in
      record {
        rest = d.rest;
        whole = ⊎_elim (λ (e : IsTrue (ends t.ran)). inl e)
            (λ (p : IsPassed old t.block). inr (reached_more old new (next_incarnation t.block) grows p)) d.whole;
      });
  received = same ∙ w.received;
}

-- ---- a block opens

pub new_whole :
    (ms : List Message) (h : HandlerId) (marks : List Mark) (b : Block) → IsReachedIn marks b → greatest_count h b ms ≡ 0 → SlotWhole ms h marks (new_slot b)
new_whole ms h marks b reached none = grind (arith, true≢false)

-- ---- a block's queue is cut

left_empty : (q : QueueState) (es : List Entry) → (if is_open q then state_cut es else Some q) ≡ None → es ≡ []
left_empty Open [] e = refl
left_empty q es e = absurd (cc)

cut_whole : (ms : List Message) (h : HandlerId) (marks : List Mark) (b : Block) → IsPassed marks b → (t : Slot) → SlotWhole ms h marks t
    → SlotWhole ms h marks (cut_in b t)
cut_whole ms h marks b passed = grind (arith, slot_cases, slot_of, same_block_is, passed_ended, left_empty)

pub slots_cut_whole :
    (ms : List Message) (h : HandlerId) (marks : List Mark) (b : Block) (ss : List Slot) → IsPassed marks b → AllByRecursion (SlotWhole ms h marks) ss
    → AllByRecursion (SlotWhole ms h marks) (slots_cut b ss)
slots_cut_whole ms h marks b ss passed all =
    all_mapped (cut_in b) (SlotWhole ms h marks) (SlotWhole ms h marks) (cut_whole ms h marks b passed) ss all

-- ---- entries are put

-- the facts about a block as entries of it are taken
pub record IsTaken (ms ns : List Message) (h : HandlerId) (old new : List Mark) (b : Block) (es : List Entry) : Type 0 where
  pub grows : MarksGrow old new
  pub mark : Mark
  pub found : mark_of b.client old ≡ Some mark
  pub newest : block_of mark ≡ b
  pub running : mark.ended ≡ false
  pub next : Mark
  pub now : mark_of b.client new ≡ Some next
  pub ended : ends es ≡ true → next.ended ≡ true
  pub more : greatest_count h b ns ≡ greatest_count h b ms + length es
  pub others : (x : Block) → same_block b x ≡ false → greatest_count h x ns ≡ greatest_count h x ms

put_whole : (ms ns : List Message) (h : HandlerId) (old new : List Mark) (b : Block) (es : List Entry) → IsTaken ms ns h old new b es → (t : Slot)
    → SlotWhole ms h old t → SlotWhole ns h new (put_in b es t)
put_whole ms ns h old new b es k t w = at t.block t.ran t.rest t.state w
  where
    -- the block has not ended
    still_runs : (c : Block) → same_block b c ≡ true → HasEnded old c → ⊥
    still_runs c is has = true≢false (sym (subst (HasEnded old) (sym (same_block_is b c is)) has k.mark k.found k.newest) ∙ k.running)

    at : (c : Block) (ran rest : List Entry) (o : Option QueueState) → SlotWhole ms h old (slot_of c ran rest o)
        → SlotWhole ns h new (put_in b es (slot_of c ran rest o))
    at c ran rest None w =
        let s : Slot = slot_of c ran rest None in
        by_test (λ _. SlotWhole ns h new s) (same_block b c)
        (λ is. absurd (still_runs c is (w.ended refl)))
        (λ is. slot_more ms ns h old new s k.grows (k.others c is) w)
    at c ran rest (Some q) w =
        let s : Slot = slot_of c ran rest (Some q) in
        by_test (λ y. SlotWhole ns h new (if y then put_slot es s q else s)) (same_block b c)
        (λ is. own q is w)
        (λ is. slot_more ms ns h old new s k.grows (k.others c is) w)
      where
        own : (q : QueueState) → same_block b c ≡ true → SlotWhole ms h old (slot_of c ran rest (Some q))
            → SlotWhole ns h new (put_slot es (slot_of c ran rest (Some q)) q)
        own Open is w =
            let one : b ≡ c = same_block_is b c is in
            record {
              reached = reached_more old new c k.grows w.reached;
              ended = λ off.
                  let last : ends es ≡ true =
                  by_test (λ u. takes_more (Some (if u then Ended else Open)) ≡ false → u ≡ true) (ends es) (λ _ _. refl) (λ _ f. absurd (true≢false f)) off in
                  subst (HasEnded new) one
                  (λ x found own. subst (λ (y : Mark). y.ended ≡ true) (some_same (mark_of b.client new) k.next x k.now found) (k.ended last));
              gone = λ none. absurd (cc);
              received =
                  let count : greatest_count h c ns ≡ greatest_count h c ms + length es =
                  subst (λ x. greatest_count h x ns ≡ greatest_count h x ms + length es) one k.more in
                  let was = w.received in
                  omega (arith, count, was, length-append rest es);
            }
        own q is w = absurd (still_runs c is (w.ended refl))

pub slots_put_whole : (ms ns : List Message) (h : HandlerId) (old new : List Mark) (b : Block) (es : List Entry) (ss : List Slot) → IsTaken ms ns h old new b es
    → AllByRecursion (SlotWhole ms h old) ss → AllByRecursion (SlotWhole ns h new) (slots_put b es ss)
slots_put_whole ms ns h old new b es ss k all = all_mapped (put_in b es) (SlotWhole ms h old) (SlotWhole ns h new) (put_whole ms ns h old new b es k) ss all

-- ---- the first entry runs

-- no entry comes after an End that stands only last
end_last : (e : Entry) (es : List Entry) → EndOnlyLast (e ∷ es) → is_end e ≡ true → es ≡ []
end_last e [] only is = refl
end_last e (x ∷ xs) only is = absurd (true≢false (sym (both (not (is_end e)) _ only).0 ∙ ap not is))

pub none_behind : (es : List Entry) → (length es == 0) ≡ true → es ≡ []
none_behind [] e = refl
none_behind (x ∷ xs) e = absurd (let l = eqb-true (length (x ∷ xs)) 0 e in omega (arith, l))

-- an entry goes ahead of others, in a queue that is as all are
module _ (ms : List Message) (h : HandlerId) (old new : List Mark) (grows : MarksGrow old new) (c : Block) (ran : List Entry) (e : Entry) (es : List Entry)
    (q : QueueState) where
  abbrev before : Slot
  before = slot_of c ran (e ∷ es) (Some q)

  abbrev behind : Bool → Slot
  behind y = slot_of c (ran ++ e ∷ []) es (if y then None else Some q)

  module _ (sound : IsQueue (slot_queue before q)) (has : HasMark old (slot_queue before q)) (w : SlotWhole ms h old before) where
    -- an open queue's entries have no End among them
    open_stays : q ≡ Open → goes_with q e es ≡ true → ⊥
    open_stays is goes = grind (arith, end_last, or_cases)

    goes_done : goes_with q e es ≡ true → IsDone new (behind true)
    goes_done goes = grind (arith, end_last, ends-append, both, none_behind, reached_more, passed_from, or_cases)

    has_ended : (y : Bool) → goes_with q e es ≡ y → takes_more (if y then None else Some q) ≡ false → HasEnded old c
    has_ended true goes off = grind (arith, open_stays)
    has_ended false goes off = w.ended off

    runs_whole : (y : Bool) → goes_with q e es ≡ y → SlotWhole ms h new (behind y)
    runs_whole y goes = grind (arith, reached_more, ended_more, has_ended, length-append, goes_done)

run_whole :
    (ms : List Message) (h : HandlerId) (old new : List Mark) → MarksGrow old new → (t : Slot) (q : QueueState) → t.state ≡ Some q → IsQueue (slot_queue t q)
    → HasMark old (slot_queue t q) → SlotWhole ms h old t
    → SlotWhole ms h new (run_rest t q t.rest)
run_whole ms h old new grows t q is sound has w = at t.block t.ran t.rest t.state is sound has w
  where
    at : (c : Block) (ran rest : List Entry) (o : Option QueueState) → o ≡ Some q → IsQueue (slot_queue (slot_of c ran rest o) q)
        → HasMark old (slot_queue (slot_of c ran rest o) q) → SlotWhole ms h old (slot_of c ran rest o)
        → SlotWhole ms h new (run_rest (slot_of c ran rest o) q rest)
    at c ran [] o is sound has w = slot_more ms ms h old new (slot_of c ran [] o) grows refl w
    at c ran (e ∷ es) o is sound has w =
        runs_whole ms h old new grows c ran e es q sound has (subst (λ (p : Option QueueState). SlotWhole ms h old (slot_of c ran (e ∷ es) p)) is w)
        (goes_with q e es) refl

pub slots_run_whole : (ms : List Message) (h : HandlerId) (marks : List Mark) (r : Ran) (ss : List Slot) → AllByRecursion IsQueue (queues_of ss)
    → AllByRecursion (HasMark marks) (queues_of ss)
    → AllByRecursion (SlotWhole ms h marks) ss → AllByRecursion (SlotWhole ms h (map (mark_after r) marks)) (slots_run ss)
slots_run_whole ms h marks r ss sound marked all =
    let new : List Mark = map (mark_after r) marks in
    let grows = MarksGrow-after r marks in
    let Before : Slot → Type 0 = λ t. SlotWhole ms h marks t × InQueue IsQueue t × InQueue (HasMark marks) t in
    each_run Before (SlotWhole ms h new)
    (λ t p. slot_more ms ms h marks new t grows refl p.0)
    (λ t q is p. run_whole ms h marks new grows t q is (p.1.has q is) (p.2.has q is) p.0)
    ss
    (all_both (SlotWhole ms h marks) (λ t. InQueue IsQueue t × InQueue (HasMark marks) t) Before (λ t w k. (w, k.0, k.1)) ss all
    (all_both (InQueue IsQueue) (InQueue (HasMark marks)) (λ t. InQueue IsQueue t × InQueue (HasMark marks) t) (λ t a b. (a, b)) ss
    (each_queue IsQueue ss sound) (each_queue (HasMark marks) ss marked)))
