-- The changes of a handler's state that keep the facts of every state. All except a first greeting replace one client's
-- mark: `IsChange` states the conditions on such a mark, beside the holder and the private queues. A newer incarnation,
-- a granted lock, a block that is passed over, a lock given back, an opened queue and new entries each meet them.
use Rattle.std.proofs.Common.{◌≡◌, ℕ, zero, suc, ◌+◌, ◌-◌, ◌^◌, ◌<◌, ◌≤◌, Bool, true, false, cond, ◌&&◌, ◌||◌, ◌==◌, nat_lt, nat_le, not, IsTrue, List, [], ◌∷◌}
use Rattle.std.proofs.Common.{◌++◌, Option, Some, None, length, take, drop, refl, sym, ap, subst, ◌∙◌, inl, inr, arith, length-append}
use Rattle.std.proofs.lemmas.List.{length-drop, take-append-drop}
use Rattle.std.specs.Prelude.{IsFalse}
use Rattle.std.specs.List.{AllByRecursion}
use Rattle.std.proofs.lemmas.Bool.{cases_Bool, false≢true, leb-false, or_parts, true≢false}
use Rattle.std.proofs.lemmas.Bool.Decides.{nat_tests}
use Rattle.std.proofs.lemmas.Option.{none-some}
use Rattle.scoop_message.specs.declared.limits.TheConstants.{MAX_MARKS, MAX_QUEUES, MAX_PENDING}
use Rattle.scoop_message.specs.declared.name.Block.{Block}
use Rattle.scoop_message.specs.declared.name.ClientId.{ClientId}
use Rattle.scoop_message.specs.declared.request.Entry.{Entry}
use Rattle.scoop_message.specs.Entries.{EndOnlyLast, ends, last_number}
use Rattle.scoop_message.specs.Message.{same_client, same_block}
use Rattle.scoop_queue.specs.declared.state.QueueState.TheVariants.{Ended}
use Rattle.scoop_queue.specs.Queue.{PrivateQueue, is_open as takes_more, is_cut, is_queue_of, has_queue, has_open, queue_of, pending, left_by_cut, cut_open}
use Rattle.scoop_queue.specs.Queue.{cut, new_queue, opened, put_all, with_entries as queue_with_entries}
use Rattle.scoop_queue.specs.Refusal.{HasNumbersFor, open_refusal, put_refusal}
use Rattle.scoop_queue.specs.Sound.{IsQueue, IsQueues, number_limit}
use Rattle.scoop_queue.proofs.Ends.{ends-append, EndOnlyLast-tail}
use Rattle.scoop_queue.proofs.Found.{queue_of-put_all, queue_of-put_all-other, queue_of-cut-other, queue_of-opened, queue_of-opened-other, block-found}
use Rattle.scoop_queue.proofs.Keeping.{IsQueues-put_all, IsQueues-cut, IsQueues-opened, apart-before}
use Rattle.scoop_queue.proofs.Lookup.{same_block-true, same_block-refl}
use Rattle.scoop_handler.specs.declared.mark.Mark.{Mark}
use Rattle.scoop_handler.specs.declared.mark.Stage.{Stage}
use Rattle.scoop_handler.specs.declared.mark.Stage.TheVariants.{Held, Open, Shut}
use Rattle.scoop_handler.specs.contracts.mark.StagePartialEq.TheImpl as on_stage
use Rattle.scoop_handler.specs.Marks.{is_held, is_open, is_shut, block_of, fresh_mark, opened_mark, with_stage, with_received, without_hold, mark_of, set_mark}
use Rattle.scoop_handler.specs.Marks.{add_mark}
use Rattle.scoop_handler.specs.State.{HandlerState, IsState, IsUnderWay, HolderIsUnderWay, HoldsIfHeld, HasQueueIfOpen, IsUnused, IsUnusedUnlessOpen, FitsMark}
use Rattle.scoop_handler.specs.State.{HasMark, state_of, is_holder, is_unfinished}
use Rattle.scoop_handler.specs.Hearing.{IsHeardAt, moved, with_mark, with_incarnation, with_queue, with_entries, new_entries, is_closed, has_no_room}
use Rattle.scoop_handler.specs.Hearing.{holder_without, greeting_mark}
use Rattle.scoop_handler.specs.Rows.{IsLogAt, IsNext}
use Rattle.scoop_handler.proofs.Basics.{all_append, all_both}
use Rattle.scoop_handler.proofs.MarkLists.{mark_of-client, mark_of-set_mark_own, mark_of-set_mark_other, mark_of-add_mark_other, length-set_mark}
use Rattle.scoop_handler.proofs.MarkLists.{length-add_mark, IsAscending-set_mark, IsAscending-add_mark, All-mark_of, All-set_mark, All-add_mark}
use Rattle.scoop_handler.proofs.MarkLists.{client_from_same}
use Rattle.scoop_handler.proofs.Beside.{block_is, apart_blocks, takes_none, FitsMark-inc, FitsMark-incarnation, FitsMark-block, FitsMark-other, no_queue_yet}
use Rattle.scoop_handler.proofs.Beside.{HasMark-fits, HasMark-set, HasMark-add, All-at_block, none_of, All-found, open_queue}

-- ---- a change of one client's mark

-- the mark may take the place of its client's, beside that holder and those private queues
pub record IsChange (s : HandlerState) (holder : Option Block) (k old : Mark) (after : List PrivateQueue) : Type 0 where
  pub found : mark_of k.client s.marks ≡ Some old
  pub under_way : HolderIsUnderWay holder (set_mark k s.marks)
  pub own : IsTrue (is_held k.stage) → holder ≡ Some (block_of k)
  pub others : (b : Block) → same_client b.client k.client ≡ false → s.holder ≡ Some b → holder ≡ Some b
  pub unused : IsUnusedUnlessOpen k
  pub opened : HasQueueIfOpen after k
  pub others_open : (b : Block) → same_client b.client k.client ≡ false → has_open b s.queues ≡ has_open b after
  pub queues : IsQueues after
  pub marked : AllByRecursion (HasMark (set_mark k s.marks)) after

pub IsState-changed : (s : HandlerState) (holder : Option Block) (k old : Mark) (queues : List PrivateQueue) → IsState s → IsChange s holder k old queues
    → IsState (state_of s.number holder (set_mark k s.marks) queues s.words)
IsState-changed s holder k old queues is change = record {
  room = rw (length-set_mark k s.marks) is.room;
  ascending = IsAscending-set_mark k s.marks is.ascending;
  holder = change.under_way;
  held = All-set_mark (HoldsIfHeld s.holder) (HoldsIfHeld holder) k s.marks (record { holds = change.own })
      (λ x apart p. record { holds = λ held. change.others (block_of x) apart (p.holds held) }) is.held;
  unused = All-set_mark IsUnusedUnlessOpen IsUnusedUnlessOpen k s.marks change.unused (λ x apart p. p) is.unused;
  opened = All-set_mark (HasQueueIfOpen s.queues) (HasQueueIfOpen queues) k s.marks change.opened
      (λ x apart p. record { has = λ stage more. sym (change.others_open (block_of x) apart) ∙ p.has stage more }) is.opened;
  queues = change.queues;
  marked = change.marked;
  words = is.words;
}

under_way-own : (k old : Mark) (marks : List Mark) → mark_of k.client marks ≡ Some old → IsFalse (is_shut k.stage) → IsUnderWay (block_of k) (set_mark k marks)
under_way-own k old marks found stage =
    record { mark = k; found = mark_of-set_mark_own k old marks found; newest = refl; stage = stage }

under_way-other : (b : Block) (k : Mark) (marks : List Mark) → same_client b.client k.client ≡ false → IsUnderWay b marks → IsUnderWay b (set_mark k marks)
under_way-other b k marks apart was =
    record { mark = was.mark; found = mark_of-set_mark_other b.client k marks apart ∙ was.found; newest = was.newest; stage = was.stage }

fresh_unused : (b : Block) (stage : Stage) → IsUnusedUnlessOpen (fresh_mark b stage)
fresh_unused b stage = record { unused = λ e. record { received = refl; ended = refl; kept = refl } }

never_open : (queues : List PrivateQueue) (k : Mark) → is_open k.stage ≡ false → HasQueueIfOpen queues k
never_open queues k closed = record { has = λ stage more. absurd (true≢false (sym stage ∙ closed)) }

-- all private queues beside a changed mark
marked-set : (s : HandlerState) (k old : Mark) → IsState s → mark_of k.client s.marks ≡ Some old
    → ((q : PrivateQueue) → IsQueue q → FitsMark q old → FitsMark q k) → AllByRecursion (HasMark (set_mark k s.marks)) s.queues
marked-set s k old is found fits =
    all_both IsQueue (HasMark s.marks) (HasMark (set_mark k s.marks))
    (λ q sound has. HasMark-set k old s.marks q found (λ of fit. fits q sound fit) has) s.queues is.queues.each is.marked

-- ---- a newer incarnation

holder_without-under_way : (c : ClientId) (k : Mark) (holder : Option Block) (marks : List Mark) → k.client ≡ c → HolderIsUnderWay holder marks
    → HolderIsUnderWay (holder_without c holder) (set_mark k marks)
holder_without-under_way c k None marks of was = tt
holder_without-under_way c k (Some b) marks of was =
    elim (same_client b.client c) as (λ t. same_client b.client c ≡ t → HolderIsUnderWay (cond t None (Some b)) (set_mark k marks)) [
      | true ↦ λ same. tt
      | false ↦ λ apart. under_way-other b k marks (ap (λ d. same_client b.client d) of ∙ apart) was
    ] refl

holder_without-other : (c : ClientId) (holder : Option Block) (b : Block) → same_client b.client c ≡ false → holder ≡ Some b → holder_without c holder ≡ Some b
holder_without-other c holder b apart e = ap (holder_without c) e ∙ rw apart refl

module _ (s : HandlerState) (c : ClientId) (inc : ℕ) (k : Mark) (is : IsState s) (found : mark_of c s.marks ≡ Some k) (newer : k.inc < inc) where
  of : k.client ≡ c
  of = mark_of-client c s.marks k found

  others_has_open : (b : Block) → same_client b.client c ≡ false → has_open b s.queues ≡ has_open b (cut (block_of k) s.queues)
  others_has_open b apart =
      let other : same_block b (block_of k) ≡ false = apart_blocks b (block_of k) (ap (λ d. same_client b.client d) of ∙ apart) in
      rw (queue_of-cut-other (block_of k) b s.queues other) refl

  -- a private queue that a cut leaves
  left_fits : (q : PrivateQueue) → FitsMark q k → takes_more q.state ≡ false → FitsMark q (greeting_mark c inc)
  left_fits q fits done = let before = FitsMark-inc q k fits in FitsMark-incarnation q (greeting_mark c inc) (omega arith) done

  others_fit : (q : PrivateQueue) → is_queue_of (block_of k) q ≡ false → FitsMark q k → FitsMark q (greeting_mark c inc)
  others_fit q apart fits = left_fits q fits (fits.older (λ same. true≢false
      (sym (same_block-refl (block_of k)) ∙ (ap (same_block (block_of k)) same ∙ apart))))

  others_marked : (q : PrivateQueue) → is_queue_of (block_of k) q ≡ false → HasMark s.marks q → HasMark (set_mark (greeting_mark c inc) s.marks) q
  others_marked q apart has = HasMark-set (greeting_mark c inc) k s.marks q found (λ same fits. others_fit q apart fits) has

  own_fits : (q : PrivateQueue) → is_queue_of (block_of k) q ≡ true → HasMark s.marks q → FitsMark q k
  own_fits q mine has =
      let client : k.client ≡ q.block.client = ap (λ (b : Block). b.client) (same_block-true (block_of k) q.block mine) in
      HasMark-fits s.marks q k (ap (λ d. mark_of d s.marks) (sym client ∙ of) ∙ found) has

  own_marked : (q : PrivateQueue) → is_queue_of (block_of k) q ≡ true → HasMark s.marks q
      → AllByRecursion (HasMark (set_mark (greeting_mark c inc) s.marks)) (left_by_cut q)
  own_marked q mine has = by_state (takes_more q.state) refl q.entries where
    block : block_of k ≡ q.block
    block = same_block-true (block_of k) q.block mine

    client : q.block.client ≡ c
    client = ap (λ (b : Block). b.client) (sym block) ∙ of

    marked : (r : PrivateQueue) → r.block ≡ q.block → FitsMark r (greeting_mark c inc) → HasMark (set_mark (greeting_mark c inc) s.marks) r
    marked r same fits =
        let there : r.block.client ≡ c = ap (λ (b : Block). b.client) same ∙ client in
        record {
          mark = greeting_mark c inc;
          found = ap (λ d. mark_of d (set_mark (greeting_mark c inc) s.marks)) there
              ∙ mark_of-set_mark_own (greeting_mark c inc) k s.marks found;
          fits = fits;
        }

    below : q.block.inc < inc
    below = let before = FitsMark-inc q k (own_fits q mine has) in omega arith

    by_state : (t : Bool) → takes_more q.state ≡ t → (es : List Entry)
        → AllByRecursion (HasMark (set_mark (greeting_mark c inc) s.marks)) (cond t (cut_open q es) (q ∷ []))
    by_state true takes [] = tt
    by_state true takes (e ∷ es) = (marked _ refl (FitsMark-incarnation _ (greeting_mark c inc) below refl), tt)
    by_state false done es = (marked q refl (FitsMark-incarnation q (greeting_mark c inc) below done), tt)

  pub IsState-newer : IsState (with_incarnation s c inc k)
  IsState-newer = IsState-changed s (holder_without c s.holder) (greeting_mark c inc) k (cut (block_of k) s.queues) is (record {
    found = found;
    under_way = holder_without-under_way c (greeting_mark c inc) s.holder s.marks refl is.holder;
    own = λ held. absurd (false≢true held);
    others = λ b apart e. holder_without-other c s.holder b apart e;
    unused = fresh_unused _ Shut;
    opened = never_open _ (greeting_mark c inc) refl;
    others_open = others_has_open;
    queues = IsQueues-cut (block_of k) s.queues is.queues;
    marked = All-at_block (HasMark s.marks) (HasMark (set_mark (greeting_mark c inc) s.marks))
        (block_of k) left_by_cut s.queues is.queues.apart own_marked others_marked is.marked;
  })

-- ---- a newer block

-- the client's newest block is over, and the private queues bear a newer one
newer_block-fits : (s : HandlerState) (b : Block) (k : Mark) (stage : Stage) → IsHeardAt s b k → k.num < b.num → is_unfinished s k ≡ false → (q : PrivateQueue)
    → IsQueue q → FitsMark q k → FitsMark q (fresh_mark b stage)
newer_block-fits s b k stage at new clear q sound fits = FitsMark-block q k (fresh_mark b stage) at.inc new fits
    (takes_none q k fits (or_parts (is_holder s.holder (block_of k)) _ clear).1)

-- a lock is granted
pub IsState-granted : (s : HandlerState) (b : Block) (k : Mark) → IsState s → IsHeardAt s b k → k.num < b.num → s.holder ≡ None → is_unfinished s k ≡ false
    → IsState (moved s (Some b) (fresh_mark b Held))
IsState-granted s b k is at new free clear = IsState-changed s (Some b) (fresh_mark b Held) k s.queues is (record {
  found = at.found;
  under_way = under_way-own (fresh_mark b Held) k s.marks at.found refl;
  own = λ held. refl;
  others = λ x apart e. absurd (none-some _ (sym free ∙ e));
  unused = fresh_unused b Held;
  opened = never_open s.queues (fresh_mark b Held) refl;
  others_open = λ x apart. refl;
  queues = is.queues;
  marked = marked-set s (fresh_mark b Held) k is at.found (newer_block-fits s b k Held at new clear);
})

-- a holder of a client is its mark's block
pub holder_is_newest : (s : HandlerState) (b : Block) (k : Mark) → IsState s → mark_of b.client s.marks ≡ Some k → s.holder ≡ Some b → block_of k ≡ b
holder_is_newest s b k is found e = let was : IsUnderWay b s.marks = subst (λ h. HolderIsUnderWay h s.marks) e is.holder in
    let one : Some k ≡ Some was.mark = sym found ∙ was.found in
    let same : k ≡ was.mark = cc in
    ap block_of same ∙ was.newest

-- a block is passed over
pub IsState-skipped : (s : HandlerState) (b : Block) (k : Mark) → IsState s → IsHeardAt s b k → k.num < b.num → is_unfinished s k ≡ false
    → IsState (moved s s.holder (fresh_mark b Shut))
IsState-skipped s b k is at new clear = IsState-changed s s.holder (fresh_mark b Shut) k s.queues is (record {
  found = at.found;
  under_way = by_holder s.holder refl;
  own = λ held. absurd (false≢true held);
  others = λ x apart e. e;
  unused = fresh_unused b Shut;
  opened = never_open s.queues (fresh_mark b Shut) refl;
  others_open = λ x apart. refl;
  queues = is.queues;
  marked = marked-set s (fresh_mark b Shut) k is at.found (newer_block-fits s b k Shut at new clear);
}) where
  apart : (x : Block) → s.holder ≡ Some x → same_client x.client b.client ≡ false
  apart x e = elim (cases_Bool (same_client x.client b.client)) [
    | inl same ↦
        let of : x.client ≡ b.client = client_from_same x.client b.client same in
        let newest : block_of k ≡ x = holder_is_newest s x k is (ap (λ c. mark_of c s.marks) of ∙ at.found) e in
        let holds : is_holder s.holder (block_of k) ≡ true = ap (λ h. is_holder h (block_of k)) e ∙ (ap (same_block x) newest ∙ same_block-refl x) in
        absurd (true≢false (sym (ap (λ t. t || is_open k.stage && not k.ended) holds) ∙ clear))
    | inr other ↦ other
  ]

  by_holder : (h : Option Block) → s.holder ≡ h → HolderIsUnderWay h (set_mark (fresh_mark b Shut) s.marks)
  by_holder None e = tt
  by_holder (Some x) e = under_way-other x (fresh_mark b Shut) s.marks (apart x e) (subst (λ h. HolderIsUnderWay h s.marks) e is.holder)

-- ---- a holder is freed

without_hold-unused : (k : Mark) → IsUnusedUnlessOpen k → IsUnusedUnlessOpen (without_hold k)
without_hold-unused k was = by_stage k.stage refl where
  by_stage : (stage : Stage) → k.stage ≡ stage → IsUnusedUnlessOpen (with_stage (cond (is_held stage) Shut stage) k)
  by_stage Held e = let not_open : is_open k.stage ≡ false = ap is_open e in
      let none = was.unused not_open in
      record { unused = λ t. record { received = none.received; ended = none.ended; kept = none.kept } }
  by_stage Open e = record { unused = λ t. absurd (true≢false t) }
  by_stage Shut e = let not_open : is_open k.stage ≡ false = ap is_open e in
      let none = was.unused not_open in
      record { unused = λ t. record { received = none.received; ended = none.ended; kept = none.kept } }

pub still_open : (stage : Stage) → is_open (cond (is_held stage) Shut stage) ≡ is_open stage
still_open Held = refl
still_open Open = refl
still_open Shut = refl

without_hold-fits : (k : Mark) (q : PrivateQueue) → IsQueue q → FitsMark q k → FitsMark q (without_hold k)
without_hold-fits k q sound fits = record {
  not_above = fits.not_above;
  newest = λ same. let was = fits.newest same in record {
    received = was.received;
    unfinished = λ takes. ap (λ t. t && not k.ended) (still_open k.stage)
        ∙ was.unfinished takes;
  };
  older = fits.older;
  cut = fits.cut;
}

pub IsState-freed : (s : HandlerState) (b : Block) (k : Mark) → IsState s → IsHeardAt s b k → is_holder s.holder b ≡ true
    → IsState (moved s None (without_hold k))
IsState-freed s b k is at holds =
    let of : k.client ≡ b.client = mark_of-client b.client s.marks k at.found in
    let own : mark_of k.client s.marks ≡ Some k = ap (λ c. mark_of c s.marks) of ∙ at.found in
    let was : HasQueueIfOpen s.queues k = All-mark_of (HasQueueIfOpen s.queues) b.client s.marks k is.opened at.found in
    IsState-changed s None (without_hold k) k s.queues is (record {
      found = own;
      under_way = tt;
      own = λ held. absurd (never k.stage held);
      others = λ x apart e. absurd (clash x (ap (same_client x.client) (sym of) ∙ apart) e);
      unused = without_hold-unused k (All-mark_of IsUnusedUnlessOpen b.client s.marks k is.unused at.found);
      opened = record { has = λ stage more. was.has (sym (still_open k.stage) ∙ stage) more };
      others_open = λ x apart. refl;
      queues = is.queues;
      marked = marked-set s (without_hold k) k is own (without_hold-fits k);
    }) where
      never : (stage : Stage) → IsTrue (is_held (cond (is_held stage) Shut stage)) → ⊥
      never Held held = false≢true held
      never Open held = false≢true held
      never Shut held = false≢true held

      clash : (x : Block) → same_client x.client b.client ≡ false → s.holder ≡ Some x → ⊥
      clash x apart e = let same : same_block x b ≡ true = sym (ap (λ h. is_holder h b) e) ∙ holds in grind (arith, nat_tests)

-- ---- a first greeting

pub IsState-first : (s : HandlerState) (c : ClientId) (inc : ℕ) → IsState s → mark_of c s.marks ≡ None → length s.marks < MAX_MARKS
    → IsState (with_mark s (greeting_mark c inc))
IsState-first s c inc is none room = record {
  room = rw (length-add_mark (greeting_mark c inc) s.marks) (omega arith);
  ascending = IsAscending-add_mark (greeting_mark c inc) s.marks none is.ascending;
  holder = by_holder s.holder is.holder;
  held = All-add_mark (HoldsIfHeld s.holder) (HoldsIfHeld s.holder) (greeting_mark c inc) s.marks (record { holds = λ held. absurd (false≢true held) })
      (λ x p. p) is.held;
  unused = All-add_mark IsUnusedUnlessOpen IsUnusedUnlessOpen (greeting_mark c inc) s.marks (fresh_unused _ Shut) (λ x p. p) is.unused;
  opened = All-add_mark (HasQueueIfOpen s.queues) (HasQueueIfOpen s.queues) (greeting_mark c inc) s.marks (never_open s.queues (greeting_mark c inc) refl)
      (λ x p. p) is.opened;
  queues = is.queues;
  marked = all_both IsQueue (HasMark s.marks) (HasMark (add_mark (greeting_mark c inc) s.marks))
      (λ q sound has. HasMark-add (greeting_mark c inc) s.marks q none has) s.queues is.queues.each is.marked;
  words = is.words;
} where
  apart : (b : Block) (m : Mark) → mark_of b.client s.marks ≡ Some m → same_client c b.client ≡ false
  apart b m found = elim (cases_Bool (same_client c b.client)) [
    | inl same ↦ absurd (none-some _ (sym none ∙ (ap (λ d. mark_of d s.marks) (client_from_same c b.client same) ∙ found)))
    | inr other ↦ other
  ]

  by_holder : (h : Option Block) → HolderIsUnderWay h s.marks → HolderIsUnderWay h (add_mark (greeting_mark c inc) s.marks)
  by_holder None was = tt
  by_holder (Some b) was = record {
    mark = was.mark;
    found = mark_of-add_mark_other b.client (greeting_mark c inc) s.marks (apart b was.mark was.found)
        ∙ was.found;
    newest = was.newest;
    stage = was.stage;
  }

-- ---- a private queue is opened

module _ (s : HandlerState) (b : Block) (k : Mark) (is : IsState s) (at : IsHeardAt s b k) (same_num : k.num ≡ b.num) (held : k.stage ≡ Held)
    (room : length s.queues < MAX_QUEUES) where
  of_client : k.client ≡ b.client
  of_client = mark_of-client b.client s.marks k at.found

  own_mark : mark_of k.client s.marks ≡ Some k
  own_mark = ap (λ c. mark_of c s.marks) of_client ∙ at.found

  is_newest : block_of k ≡ b
  is_newest = block_is k b of_client at.inc same_num

  closed : is_open k.stage ≡ false
  closed = ap is_open held

  unused : IsUnused k
  unused = let all : IsUnusedUnlessOpen k = All-mark_of IsUnusedUnlessOpen b.client s.marks k is.unused at.found in all.unused closed

  -- the block has no private queue yet
  pub absent : has_queue b s.queues ≡ false
  absent = none_of (λ q. is_queue_of b q ≡ false) b s.queues (λ q e. e)
      (all_both IsQueue (HasMark s.marks) (λ q. is_queue_of b q ≡ false) apart s.queues is.queues.each is.marked) where
        apart : (q : PrivateQueue) → IsQueue q → HasMark s.marks q → is_queue_of b q ≡ false
        apart q sound has = elim (cases_Bool (is_queue_of b q)) [
          | inl mine ↦
              let block : b ≡ q.block = same_block-true b q.block mine in
              let found : mark_of q.block.client s.marks ≡ Some k = ap (λ (d : Block). mark_of d.client s.marks) (sym block) ∙ at.found in
              absurd (no_queue_yet q k sound (HasMark-fits s.marks q k found has) unused closed (is_newest ∙ block))
          | inr other ↦ other
        ]

  new_queue_fits : FitsMark (new_queue b) (opened_mark k)
  new_queue_fits = record {
    not_above = inr (sym at.inc, omega (arith, same_num));
    newest = λ same. let received = unused.received in record { received = omega arith; unfinished = λ takes. ap not unused.ended };
    older = λ apart. absurd (apart is_newest);
    cut = λ cut_off. absurd (false≢true cut_off);
  }

  pub IsState-opened : IsState (with_queue s b k)
  IsState-opened = IsState-changed s s.holder (opened_mark k) k (opened b s.queues) is (record {
    found = own_mark;
    under_way = subst (λ h. HolderIsUnderWay h (set_mark (opened_mark k) s.marks)) (sym holds) (under_way-own (opened_mark k) k s.marks own_mark refl);
    own = λ is_held_now. absurd (false≢true is_held_now);
    others = λ x apart e. e;
    unused = record { unused = λ not_open. absurd (true≢false not_open) };
    opened = record { has = λ stage more. ap (λ d. has_open d (opened b s.queues)) is_newest ∙ there };
    others_open = λ x apart. others x (apart_blocks x b (ap (same_client x.client) (sym of_client) ∙ apart));
    queues = IsQueues-opened b s.queues is.queues fits;
    marked = all_append (HasMark (set_mark (opened_mark k) s.marks)) s.queues (new_queue b ∷ [])
        (marked-set s (opened_mark k) k is own_mark (λ q sound fit. FitsMark-other q k (opened_mark k) refl (no_queue_yet q k sound fit unused closed) fit)) (
          record {
            mark = opened_mark k;
            found = ap (λ c. mark_of c (set_mark (opened_mark k) s.marks)) (sym of_client)
                ∙ mark_of-set_mark_own (opened_mark k) k s.marks own_mark;
            fits = new_queue_fits;
          },
          tt,
        );
  }) where
    holds : s.holder ≡ Some (block_of k)
    holds = let was : HoldsIfHeld s.holder k = All-mark_of (HoldsIfHeld s.holder) b.client s.marks k is.held at.found in was.holds (ap is_held held)

    there : has_open b (opened b s.queues) ≡ true
    there = rw (queue_of-opened b s.queues absent) refl

    others : (x : Block) → same_block x b ≡ false → has_open x s.queues ≡ has_open x (opened b s.queues)
    others x apart = rw (queue_of-opened-other b x s.queues apart) refl

    fits : open_refusal b s.queues ≡ None
    fits = let below : nat_le MAX_QUEUES (length s.queues) ≡ false = grind (arith, nat_tests) in rw (below, absent) refl

-- memory is the only reason to refuse a private queue that may be opened
pub opening_fits : (b : Block) (qs : List PrivateQueue) → IsQueues (opened b qs) → open_refusal b qs ≡ None
opening_fits b qs sound =
    let more = length-append qs (new_queue b ∷ []) in
    let limit = sound.limit in
    let below : nat_le MAX_QUEUES (length qs) ≡ false = (let few : length qs < MAX_QUEUES = omega arith in grind (arith, nat_tests)) in
    let none : has_queue b qs ≡ false = apart-before (new_queue b) qs [] sound.apart in
    rw (below, none) refl

-- ---- entries are taken

pub has_room : (s : HandlerState) (b : Block) (more : ℕ) → has_no_room s b more ≡ false → pending b s.queues + more ≤ MAX_PENDING
has_room s b more e = grind (arith, nat_tests)

-- entries from some place on end as all of them do
pub ends-drop : (i : ℕ) (es : List Entry) → 0 < length (drop i es) → ends (drop i es) ≡ ends es
ends-drop i es some = sym (ends-append (take i es) (drop i es) some) ∙ ap ends (take-append-drop i es)

EndOnlyLast-drop : (i : ℕ) (es : List Entry) → EndOnlyLast es → EndOnlyLast (drop i es)
EndOnlyLast-drop zero es end = end
EndOnlyLast-drop (suc i) [] end = refl
EndOnlyLast-drop (suc i) (e ∷ es) end = EndOnlyLast-drop i es (EndOnlyLast-tail e es end)

-- the conditions on a block that takes more
pub record IsRoomy (k : Mark) (last : ℕ) (es : List Entry) : Type 0 where
  pub ended : k.ended ≡ false
  pub low : last < 2 ^ 32
  pub end : ends es ≡ false → last < 2 ^ 32 - 1

pub roomy : (k : Mark) (last : ℕ) (es : List Entry) → is_closed k last es ≡ false → IsRoomy k last es
roomy k last es e =
    let rest = (or_parts k.ended _ e).1 in
    let tests = or_parts (nat_le (2 ^ 32) last) _ rest in
    let low : last < 2 ^ 32 = leb-false (2 ^ 32) last tests.0 in
    record { ended = (or_parts k.ended _ e).0; low = low; end = λ more. highest tests.1 more low } where
      highest : (last == 2 ^ 32 - 1 && not (ends es)) ≡ false → ends es ≡ false → last < 2 ^ 32 → last < 2 ^ 32 - 1
      highest e more lt = by_test (last == 2 ^ 32 - 1) refl (ap (λ t. last == 2 ^ 32 - 1 && not t) (sym more) ∙ e) where
        by_test : (t : Bool) → (last == 2 ^ 32 - 1) ≡ t → (t && true) ≡ false → last < 2 ^ 32 - 1
        by_test true is f = absurd (true≢false f)
        by_test false apart f = grind (arith, nat_tests)

module _ (s : HandlerState) (b : Block) (n : ℕ) (es : List Entry) (k : Mark) (is : IsState s) (at : IsLogAt s b k) (next : IsNext k n es)
    (some : 0 < length es) (end : EndOnlyLast es) (goes_on : IsRoomy k (last_number n es) es)
    (room : pending b s.queues + length (new_entries n es k) ≤ MAX_PENDING) where
  abbrev last : ℕ
  last = last_number n es

  abbrev new : List Entry
  new = new_entries n es k

  length_new : length new ≡ length es - (k.received + 1 - n)
  length_new = length-drop (k.received + 1 - n) es

  -- the new entries are those after the received ones
  pub count_new : k.received + length (new_entries n es k) ≡ last_number n es
  count_new = let counted = length_new in omega (arith, next.new, next.no_gap)

  pub some_new : 0 < length (new_entries n es k)
  some_new = let counted = count_new in omega (arith, next.new)

  pub end_new : EndOnlyLast (new_entries n es k)
  end_new = EndOnlyLast-drop (k.received + 1 - n) es end

  ends_new : ends new ≡ ends es
  ends_new = ends-drop (k.received + 1 - n) es some_new

  log_client : k.client ≡ b.client
  log_client = mark_of-client b.client s.marks k at.heard.found

  log_mark : mark_of k.client s.marks ≡ Some k
  log_mark = ap (λ c. mark_of c s.marks) log_client ∙ at.heard.found

  log_newest : block_of k ≡ b
  log_newest = block_is k b log_client at.heard.inc at.num

  has_it : has_open b s.queues ≡ true
  has_it =
      let was : HasQueueIfOpen s.queues k = All-mark_of (HasQueueIfOpen s.queues) b.client s.marks k is.opened at.heard.found in
      ap (λ d. has_open d s.queues) (sym log_newest) ∙ was.has (ap is_open at.stage) goes_on.ended

  fits_found : (q : PrivateQueue) → queue_of b s.queues ≡ Some q → FitsMark q k
  fits_found q found =
      let block : q.block ≡ b = block-found b q s.queues found in
      let has : HasMark s.marks q = All-found (HasMark s.marks) b q s.queues is.marked found in
      HasMark-fits s.marks q k (ap (λ (d : Block). mark_of d.client s.marks) block ∙ at.heard.found) has

  next_new : (q : PrivateQueue) → b ≡ q.block → FitsMark q k → q.first + length (q.entries ++ new) ≡ last + 1
  next_new q block fits =
      let before = (fits.newest (log_newest ∙ block)).received in
      let more = length-append q.entries new in
      let counted = count_new in
      omega arith

  pub numbers_new : HasNumbersFor b (new_entries n es k) s.queues
  numbers_new = λ q found takes. record { next = by_end q found takes (ends new) refl } where
    by_end : (q : PrivateQueue) → queue_of b s.queues ≡ Some q → takes_more q.state ≡ true → (t : Bool) → ends new ≡ t
        → q.first + length (q.entries ++ new) ≤ number_limit (cond t Ended q.state)
    by_end q found takes true is_end = let number = next_new q (sym (block-found b q s.queues found)) (fits_found q found) in let low = goes_on.low in
        omega arith
    by_end q found takes false more =
        let number = next_new q (sym (block-found b q s.queues found)) (fits_found q found) in
        let low = goes_on.end (sym ends_new ∙ more) in
        rw takes (omega arith)

  pub fits_queue : put_refusal b (length (new_entries n es k)) s.queues ≡ None
  fits_queue = by_queue (open_queue b s.queues has_it) where
    by_queue : (q : PrivateQueue) × (queue_of b s.queues ≡ Some q) × (takes_more q.state ≡ true) → put_refusal b (length new) s.queues ≡ None
    by_queue found =
        let q = found.0 in
        let counted : pending b s.queues ≡ length q.entries = rw found.1 refl in
        let low : nat_lt MAX_PENDING (length q.entries + length new) ≡ false = (let few = room in grind (arith, nat_tests)) in
        rw (found.1, found.2, low) refl

  abbrev taken_mark : Mark
  taken_mark = with_received last (ends es) k

  own_taken : (q : PrivateQueue) → is_queue_of b q ≡ true → FitsMark q k → FitsMark (queue_with_entries new q) taken_mark
  own_taken q mine fits = record {
    not_above = fits.not_above;
    newest = λ same. record { received = next_new q (same_block-true b q.block mine) fits; unfinished = λ takes. unended (ends new) refl takes };
    older = λ apart. absurd (apart (log_newest ∙ same_block-true b q.block mine));
    cut = λ cut_off. still (ends new) cut_off;
  } where
    unended : (t : Bool) → ends new ≡ t → takes_more (cond t Ended q.state) ≡ true → (is_open k.stage && not (ends es)) ≡ true
    unended true is_end takes = absurd (false≢true takes)
    unended false more takes = rw (ap is_open at.stage, sym ends_new ∙ more) refl

    still : (t : Bool) → IsTrue (is_cut (cond t Ended q.state)) → q.block.inc < k.inc
    still true cut_off = absurd (false≢true cut_off)
    still false cut_off = fits.cut cut_off

  own_marked_taken : (q : PrivateQueue) → is_queue_of b q ≡ true → HasMark s.marks q
      → AllByRecursion (HasMark (set_mark taken_mark s.marks)) (queue_with_entries new q ∷ [])
  own_marked_taken q mine has =
      let block : b ≡ q.block = same_block-true b q.block mine in
      let fits : FitsMark q k = HasMark-fits s.marks q k (ap (λ (d : Block). mark_of d.client s.marks) (sym block) ∙ at.heard.found) has in
      let client : q.block.client ≡ k.client = ap (λ (d : Block). d.client) (sym block) ∙ sym log_client in (
        record {
          mark = taken_mark;
          found = ap (λ c. mark_of c (set_mark taken_mark s.marks)) client
              ∙ mark_of-set_mark_own taken_mark k s.marks log_mark;
          fits = own_taken q mine fits;
        },
        tt,
      )

  others_taken : (q : PrivateQueue) → is_queue_of b q ≡ false → HasMark s.marks q → HasMark (set_mark taken_mark s.marks) q
  others_taken q apart has =
      HasMark-set taken_mark k s.marks q log_mark
      (λ same fits. FitsMark-other q k taken_mark refl (λ block. true≢false (sym (same_block-refl b) ∙ (ap (same_block b) (sym log_newest ∙ block) ∙ apart)))
      fits)
      has

  pub IsState-taken : IsState (with_entries s b n es k)
  IsState-taken = IsState-changed s s.holder taken_mark k (put_all b new s.queues) is (record {
    found = log_mark;
    under_way = by_holder s.holder refl;
    own = λ held. absurd (never k.stage at.stage held);
    others = λ x apart e. e;
    unused = record { unused = λ not_open. absurd (true≢false (sym (ap is_open at.stage) ∙ not_open)) };
    opened = record { has = λ stage more. ap (λ d. has_open d (put_all b new s.queues)) log_newest ∙ by_queue (open_queue b s.queues has_it) more };
    others_open = λ x apart. others x (apart_blocks x b (ap (same_client x.client) (sym log_client) ∙ apart));
    queues = IsQueues-put_all b new s.queues is.queues some_new end_new numbers_new fits_queue;
    marked = All-at_block (HasMark s.marks) (HasMark (set_mark taken_mark s.marks)) b
        (λ q. queue_with_entries new q ∷ []) s.queues is.queues.apart own_marked_taken others_taken is.marked;
  }) where
    never : (stage : Stage) → stage ≡ Open → IsTrue (is_held stage) → ⊥
    never stage e held = false≢true (sym (ap is_held e) ∙ held)

    by_queue : (q : PrivateQueue) × (queue_of b s.queues ≡ Some q) × (takes_more q.state ≡ true) → ends es ≡ false → has_open b (put_all b new s.queues) ≡ true
    by_queue found more =
        let unended : ends new ≡ false = ends_new ∙ more in
        rw (queue_of-put_all b new found.0 s.queues found.1, unended) found.2

    others : (x : Block) → same_block x b ≡ false → has_open x s.queues ≡ has_open x (put_all b new s.queues)
    others x apart = rw (queue_of-put_all-other b x new s.queues apart) refl

    -- a holder of that client is the mark's block
    by_holder : (h : Option Block) → s.holder ≡ h → HolderIsUnderWay h (set_mark taken_mark s.marks)
    by_holder None e = tt
    by_holder (Some x) e = elim (cases_Bool (same_client x.client k.client)) [
      | inl same ↦
          let of : x.client ≡ k.client = client_from_same x.client k.client same in
          let newest : block_of k ≡ x = holder_is_newest s x k is (ap (λ c. mark_of c s.marks) of ∙ log_mark) e in
          subst (λ d. IsUnderWay d (set_mark taken_mark s.marks)) newest (under_way-own taken_mark k s.marks log_mark (ap is_shut at.stage))
      | inr apart ↦ under_way-other x taken_mark s.marks apart (subst (λ h. HolderIsUnderWay h s.marks) e is.holder)
    ]

-- all that a call which takes entries relies on
pub record MayTake (s : HandlerState) (b : Block) (n : ℕ) (es : List Entry) (k : Mark) : Type 0 where
  pub state : IsState (with_entries s b n es k)
  pub end : EndOnlyLast (new_entries n es k)
  pub numbers : HasNumbersFor b (new_entries n es k) s.queues
  pub fits : put_refusal b (length (new_entries n es k)) s.queues ≡ None

pub may_take : (s : HandlerState) (b : Block) (n : ℕ) (es : List Entry) (k : Mark) → IsState s → IsLogAt s b k → IsNext k n es → 0 < length es → EndOnlyLast es
    → is_closed k (last_number n es) es ≡ false → has_no_room s b (length (new_entries n es k)) ≡ false → MayTake s b n es k
may_take s b n es k is at next some end closed room =
    let goes_on = roomy k (last_number n es) es closed in
    let fits = has_room s b (length (new_entries n es k)) room in
    record {
      state = IsState-taken s b n es k is at next some end goes_on fits;
      end = end_new s b n es k is at next some end goes_on fits;
      numbers = numbers_new s b n es k is at next some end goes_on fits;
      fits = fits_queue s b n es k is at next some end goes_on fits;
    }

pub open_stage : (stage : Stage) → not (on_stage.eq-value.it stage Open) ≡ false → stage ≡ Open
open_stage Held e = cc
open_stage Open e = refl
open_stage Shut e = cc
