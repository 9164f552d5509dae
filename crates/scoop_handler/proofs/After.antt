-- Facts of every handler survive a run of the first entry of its first private queue. That queue then begins one entry
-- further or is gone. Only the mark at the entry's own block may keep another answer. Such a mark is of an open block,
-- so a mark whose block hasn't opened stays as it was.
use Rattle.std.proofs.Common.{◌≡◌, ℕ, ◌+◌, ◌<◌, ◌≤◌, Bool, true, false, cond, not, ◌&&◌, IsTrue, IsFalse, List, [], ◌∷◌, ◌++◌, length, map, Option, Some, None}
use Rattle.std.proofs.Common.{is_some, refl, sym, ap, ◌∙◌, subst, inl, inr, arith, true≢false}
use Rattle.std.specs.List.{AllByRecursion}
use Rattle.std.specs.Option.{option_map}
use Rattle.std.proofs.lemmas.Bool.{cases_Bool}
use Rattle.std.proofs.lemmas.Bool.Decides.{nat_tests}
use Rattle.std.proofs.lemmas.List.{length-map}
use Rattle.std.proofs.lemmas.Option.{none-some, same_Some}
use Rattle.scoop_message.specs.declared.name.Block.{Block}
use Rattle.scoop_message.specs.declared.name.ClientId.{ClientId}
use Rattle.scoop_message.specs.declared.request.Entry.{Entry}
use Rattle.scoop_message.specs.Entry.{is_end, is_query}
use Rattle.scoop_message.specs.Entries.{EndOnlyLast, end_only_last, ends}
use Rattle.scoop_message.specs.Message.{same_client, same_block}
use Rattle.scoop_object.specs.Play.{entry_effect}
use Rattle.scoop_object.proofs.Play.{length-entry_effect}
use Rattle.scoop_queue.specs.declared.state.QueueState.{QueueState}
use Rattle.scoop_queue.specs.declared.state.QueueState.TheVariants.{Open, Ended, Cut}
use Rattle.scoop_queue.specs.Queue.{PrivateQueue, advance, first_of, front, goes_with, has_open, is_cut, is_ended, is_open as takes_more, is_queue_of}
use Rattle.scoop_queue.specs.Queue.{left_by_first}
use Rattle.scoop_queue.specs.Sound.{IsQueue, IsQueues}
use Rattle.scoop_queue.proofs.Keeping.{IsQueues-advance}
use Rattle.scoop_queue.proofs.Ends.{both}
use Rattle.scoop_queue.proofs.Lookup.{same_block-true}
use Rattle.scoop_handler.specs.declared.mark.Mark.{Mark}
use Rattle.scoop_handler.specs.declared.ran.Ran.{Ran}
use Rattle.scoop_handler.specs.Marks.{block_of, is_open, mark_of}
use Rattle.scoop_handler.specs.State.{HandlerState, IsState, IsAscending, HolderIsUnderWay, HoldsIfHeld, IsUnused, IsUnusedUnlessOpen, HasQueueIfOpen}
use Rattle.scoop_handler.specs.State.{FitsNewest, FitsMark, HasMark}
use Rattle.scoop_handler.specs.Core.{Core, IsCore, core_of}
use Rattle.scoop_handler.specs.Growing.{MarksGrow}
use Rattle.scoop_handler.specs.Running.{Task, after, after_ran, begun, finished, first_task, job_out, kept_after, mark_after, ran_of, ready, run, task_effect}
use Rattle.scoop_handler.specs.Running.{task_of}
use Rattle.scoop_handler.proofs.MarkLists.{same_client-refl}
use Rattle.scoop_handler.proofs.MarkPlaces.{tail-ascending}

-- ---- the marks

pub mark_of-after : (r : Ran) (c : ClientId) (marks : List Mark) → mark_of c (map (mark_after r) marks) ≡ option_map (mark_after r) (mark_of c marks)
mark_of-after r c [] = refl
mark_of-after r c (x ∷ xs) =
    elim (same_client x.client c) as (λ b. cond b (Some (mark_after r x)) (mark_of c (map (mark_after r) xs))
    ≡ option_map (mark_after r) (cond b (Some x) (mark_of c xs))) [
      | true ↦ refl
      | false ↦ mark_of-after r c xs
    ]

-- a client's mark stays, except for the kept answer
pub found-after : (r : Ran) (c : ClientId) (marks : List Mark) (k : Mark) → mark_of c marks ≡ Some k
    → mark_of c (map (mark_after r) marks) ≡ Some (mark_after r k)
found-after r c marks k found = mark_of-after r c marks ∙ ap (option_map (mark_after r)) found

IsAscending-after : (r : Ran) (marks : List Mark) → IsAscending marks → IsAscending (map (mark_after r) marks)
IsAscending-after r [] up = tt
IsAscending-after r (x ∷ []) up = tt
IsAscending-after r (x ∷ y ∷ ys) up = (up.0, IsAscending-after r (y ∷ ys) up.1)

All-after : (P Q : Mark → Type 0) (r : Ran) (marks : List Mark) → ((k : Mark) → P k → Q (mark_after r k)) → AllByRecursion P marks
    → AllByRecursion Q (map (mark_after r) marks)
All-after P Q r [] kept all = tt
All-after P Q r (x ∷ xs) kept all = (kept x all.0, All-after P Q r xs kept all.1)

holder-after : (r : Ran) (holder : Option Block) (marks : List Mark) → HolderIsUnderWay holder marks → HolderIsUnderWay holder (map (mark_after r) marks)
holder-after r None marks way = tt
holder-after r (Some b) marks way = record {
  mark = mark_after r way.mark;
  found = found-after r b.client marks way.mark way.found;
  newest = way.newest;
  stage = way.stage;
}

-- ---- each mark is its client's

abbrev IsAbove : ClientId → Mark → Type 0
IsAbove c k = c.0 < k.client.0

All-above : (c : ClientId) (x : Mark) (xs : List Mark) → c.0 < x.client.0 → IsAscending (x ∷ xs) → AllByRecursion (IsAbove c) (x ∷ xs)
All-above c x [] lt up = (lt, tt)
All-above c x (y ∷ ys) lt up =
    let next : c.0 < y.client.0 = omega (arith, lt, up.0) in
    (lt, All-above c y ys next up.1)

tail-above : (x : Mark) (xs : List Mark) → IsAscending (x ∷ xs) → AllByRecursion (IsAbove x.client) xs
tail-above x [] up = tt
tail-above x (y ∷ ys) up = All-above x.client y ys up.0 up.1

abbrev pub IsFound : List Mark → Mark → Type 0
IsFound marks k = mark_of k.client marks ≡ Some k

found-later : (x : Mark) (xs ys : List Mark) → AllByRecursion (IsAbove x.client) ys → AllByRecursion (IsFound xs) ys → AllByRecursion (IsFound (x ∷ xs)) ys
found-later x xs [] above all = tt
found-later x xs (y ∷ ys) above all =
    let apart : x.client.0 < y.client.0 = above.0 in
    let other : same_client x.client y.client ≡ false = grind (arith, nat_tests) in
    (rw other all.0, found-later x xs ys above.1 all.1)

pub All-found : (marks : List Mark) → IsAscending marks → AllByRecursion (IsFound marks) marks
All-found [] up = tt
All-found (x ∷ xs) up =
    (rw (same_client-refl x.client) refl, found-later x xs xs (tail-above x xs up) (All-found xs (tail-ascending x xs up)))

All-and : (P Q R : Mark → Type 0) (marks : List Mark) → ((k : Mark) → P k → Q k → R k) → AllByRecursion P marks → AllByRecursion Q marks
    → AllByRecursion R marks
All-and P Q R [] both p q = tt
All-and P Q R (x ∷ xs) both p q = (both x p.0 q.0, All-and P Q R xs both p.1 q.1)

-- ---- the private queues

open-not-ended : (s : QueueState) → IsTrue (takes_more s) → is_ended s ≡ false
open-not-ended Open more = refl
open-not-ended Ended more = absurd (true≢false (sym more))
open-not-ended Cut more = refl

open-not-cut : (s : QueueState) → IsTrue (takes_more s) → is_cut s ≡ false
open-not-cut Open more = refl
open-not-cut Ended more = refl
open-not-cut Cut more = absurd (true≢false (sym more))

not-true : (t : Bool) → IsTrue (not t) → t ≡ false
not-true true h = absurd (true≢false (sym h))
not-true false h = refl

-- a block other than the first queue's finds its queue among the others
other-first : (b : Block) (q : PrivateQueue) (qs : List PrivateQueue) → is_queue_of b q ≡ false → IsTrue (has_open b (q ∷ qs)) → IsTrue (has_open b qs)
other-first b q qs other has = rw other at has

no-end : (e : Entry) (es : List Entry) → EndOnlyLast (e ∷ es) → ends (e ∷ es) ≡ false → is_end e ≡ false
no-end e [] last none = none
no-end e (f ∷ es) last none = not-true (is_end e) (both (not (is_end e)) (end_only_last (f ∷ es)) last).0

-- a queue that takes more entries doesn't go with its first one
open-goes : (q : PrivateQueue) (e : Entry) (es : List Entry) → IsQueue q → q.entries ≡ e ∷ es → IsTrue (takes_more q.state) → goes_with q.state e es ≡ true → ⊥
open-goes q e es sound are more goes =
    let ended : ends (e ∷ es) ≡ is_ended q.state = rw are at sound.ended in
    let end : is_end e ≡ false = no-end e es (rw are at sound.end) (ended ∙ open-not-ended q.state more) in
    true≢false (sym goes ∙ rw (end, open-not-cut q.state more) refl)

-- if the first queue takes more entries, the rest of it does too
left-open : (b : Block) (q : PrivateQueue) (es : List Entry) (qs : List PrivateQueue) → IsQueue q → q.entries ≡ es → IsTrue (has_open b (q ∷ qs))
    → IsTrue (has_open b (left_by_first q es ++ qs))
left-open b q [] qs sound are has = has
left-open b q (e ∷ es) qs sound are has = by (is_queue_of b q) refl (goes_with q.state e es) refl
  where
    by : (t : Bool) → is_queue_of b q ≡ t → (u : Bool) → goes_with q.state e es ≡ u → IsTrue (has_open b (left_by_first q (e ∷ es) ++ qs))
    by true here true goes = absurd (open-goes q e es sound are (rw here at has) goes)
    by true here false stays = rw (stays, here) (rw here at has)
    by false other true goes = rw goes (other-first b q qs other has)
    by false other false stays = rw (stays, other) (other-first b q qs other has)

has_open-advance : (b : Block) (qs : List PrivateQueue) → IsQueues qs → IsTrue (has_open b qs) → IsTrue (has_open b (advance qs))
has_open-advance b [] sound has = has
has_open-advance b (q ∷ qs) sound has = left-open b q q.entries qs sound.each.0 refl has

-- ---- marks whose block has not opened

-- a queue with a pending entry is that of a block with entries received
newest-used : (q : PrivateQueue) (k : Mark) (e : Entry) (es : List Entry) → IsQueue q → q.entries ≡ e ∷ es → FitsNewest q k → k.received ≡ 0 → ⊥
newest-used q k e es sound are fits none =
    let next : q.first + length (e ∷ es) ≡ k.received + 1 = rw are at fits.received in
    let first : 1 ≤ q.first = sound.first in
    omega (arith, next, first, none)

-- if the first entry's block is a mark's, that mark is of an open block
same-block-open : (marks : List Mark) (q : PrivateQueue) (e : Entry) (es : List Entry) (k : Mark) → IsQueue q → q.entries ≡ e ∷ es → HasMark marks q
    → IsFound marks k → IsUnusedUnlessOpen k → IsFalse (is_open k.stage) → same_block (block_of k) q.block ≡ true → ⊥
same-block-open marks q e es k sound are has found unless shut same =
    let block : block_of k ≡ q.block = same_block-true (block_of k) q.block same in
    let client : k.client ≡ q.block.client = ap (λ (b : Block). b.client) block in
    let there : mark_of k.client marks ≡ Some has.mark = subst (λ (c : ClientId). mark_of c marks ≡ Some has.mark) (sym client) has.found in
    let is : k ≡ has.mark = same_Some k has.mark (sym found ∙ there) in
    let fits : FitsMark q k = subst (FitsMark q) (sym is) has.fits in
    newest-used q k e es sound are (fits.newest block) (unless.unused shut).received

-- the entry that has run is the first one
abbrev pub IsFirst : Ran → List PrivateQueue → Type 0
IsFirst r qs = front qs ≡ Some (r.block, r.number, r.entry)

IsFirst-block : (r : Ran) (q : PrivateQueue) (e : Entry) (es : List Entry) → first_of q (e ∷ es) ≡ Some (r.block, r.number, r.entry) → q.block ≡ r.block
IsFirst-block r q e es first = ap (λ (f : Block × ℕ × Entry). f.0) (same_Some (q.block, q.first, e) (r.block, r.number, r.entry) first)

kept-other : (r : Ran) (k : Mark) → same_block (block_of k) r.block ≡ false → kept_after r k ≡ k.kept
kept-other r k other =
    elim (is_query r.entry) as (λ t. cond (t && same_block (block_of k) r.block) (option_map (λ a. (r.number, a)) r.answer) k.kept ≡ k.kept) [
      | true ↦ rw other refl
      | false ↦ refl
    ]

not-open-kept : (marks : List Mark) (qs : List PrivateQueue) (r : Ran) (k : Mark) → IsQueues qs → AllByRecursion (HasMark marks) qs → IsFirst r qs
    → IsFound marks k → IsUnusedUnlessOpen k → IsFalse (is_open k.stage) → kept_after r k ≡ k.kept
not-open-kept marks [] r k sound marked first found unless shut = absurd (none-some _ first)
not-open-kept marks (q ∷ qs) r k sound marked first found unless shut = by q.entries refl first
  where
    by : (es : List Entry) → q.entries ≡ es → first_of q es ≡ Some (r.block, r.number, r.entry) → kept_after r k ≡ k.kept
    by [] are none = absurd (none-some _ none)
    by (e ∷ es) are some =
        let block : q.block ≡ r.block = IsFirst-block r q e es some in
        elim (cases_Bool (same_block (block_of k) r.block)) [
          | inl same ↦
              let here : same_block (block_of k) q.block ≡ true = subst (λ (b : Block). same_block (block_of k) b ≡ true) (sym block) same in
              absurd (same-block-open marks q e es k sound.each.0 are marked.0 found unless shut here)
          | inr other ↦ kept-other r k other
        ]

unused-after : (marks : List Mark) (qs : List PrivateQueue) (r : Ran) → IsQueues qs → AllByRecursion (HasMark marks) qs → IsFirst r qs → (k : Mark)
    → IsFound marks k → IsUnusedUnlessOpen k → IsUnusedUnlessOpen (mark_after r k)
unused-after marks qs r sound marked first k found unless = record {
  unused = λ shut.
      let before : IsUnused k = unless.unused shut in
      record {
        received = before.received;
        ended = before.ended;
        kept = not-open-kept marks qs r k sound marked first found unless shut ∙ before.kept;
      };
}

-- ---- the private queues beside the marks

opened-after : (qs : List PrivateQueue) (r : Ran) → IsQueues qs → (k : Mark) → HasQueueIfOpen qs k → HasQueueIfOpen (advance qs) (mark_after r k)
opened-after qs r sound k has = record { has = λ is more. has_open-advance (block_of k) qs sound (has.has is more) }

fits-after : (r : Ran) (q : PrivateQueue) (k : Mark) → FitsMark q k → FitsMark q (mark_after r k)
fits-after r q k fits = record {
  not_above = fits.not_above;
  newest = λ same. record { received = (fits.newest same).received; unfinished = (fits.newest same).unfinished };
  older = fits.older;
  cut = fits.cut;
}

mark-after : (r : Ran) (marks : List Mark) (q : PrivateQueue) → HasMark marks q → HasMark (map (mark_after r) marks) q
mark-after r marks q has = record {
  mark = mark_after r has.mark;
  found = found-after r q.block.client marks has.mark has.found;
  fits = fits-after r q has.mark has.fits;
}

marked-rest : (r : Ran) (marks : List Mark) (qs : List PrivateQueue) → AllByRecursion (HasMark marks) qs
    → AllByRecursion (HasMark (map (mark_after r) marks)) qs
marked-rest r marks [] all = tt
marked-rest r marks (q ∷ qs) all = (mark-after r marks q all.0, marked-rest r marks qs all.1)

-- the first queue without its first entry
abbrev without_first : PrivateQueue → List Entry → PrivateQueue
without_first q es = record { block = q.block; first = q.first + 1; entries = es; state = q.state }

fits-without : (q : PrivateQueue) (e : Entry) (es : List Entry) (k : Mark) → q.entries ≡ e ∷ es → FitsMark q k → FitsMark (without_first q es) k
fits-without q e es k are fits = record {
  not_above = fits.not_above;
  newest = λ same.
      let next : q.first + length (e ∷ es) ≡ k.received + 1 = rw are at (fits.newest same).received in
      record { received = omega (arith, next); unfinished = (fits.newest same).unfinished };
  older = fits.older;
  cut = fits.cut;
}

mark-without : (marks : List Mark) (q : PrivateQueue) (e : Entry) (es : List Entry) → q.entries ≡ e ∷ es → HasMark marks q → HasMark marks (without_first q es)
mark-without marks q e es are has = record { mark = has.mark; found = has.found; fits = fits-without q e es has.mark are has.fits }

marked-left : (marks : List Mark) (q : PrivateQueue) (es : List Entry) (qs : List PrivateQueue) → q.entries ≡ es → HasMark marks q
    → AllByRecursion (HasMark marks) qs → AllByRecursion (HasMark marks) (left_by_first q es ++ qs)
marked-left marks q [] qs are has all = (has, all)
marked-left marks q (e ∷ es) qs are has all =
    elim (goes_with q.state e es) as (λ t. AllByRecursion (HasMark marks) (cond t [] (without_first q es ∷ []) ++ qs)) [
      | true ↦ all
      | false ↦ (mark-without marks q e es are has, all)
    ]

marked-advance : (marks : List Mark) (qs : List PrivateQueue) → AllByRecursion (HasMark marks) qs → AllByRecursion (HasMark marks) (advance qs)
marked-advance marks [] all = tt
marked-advance marks (q ∷ qs) all = marked-left marks q q.entries qs refl all.0 all.1

-- ---- the state

pub IsState-after_ran : (r : Ran) (words : List ℕ) (s : HandlerState) → IsFirst r s.queues → length words ≡ length s.words → IsState s
    → IsState (after_ran r words s)
IsState-after_ran r words s first same sound = record {
  room = rw (length-map s.marks (mark_after r)) sound.room;
  ascending = IsAscending-after r s.marks sound.ascending;
  holder = holder-after r s.holder s.marks sound.holder;
  held = All-after (HoldsIfHeld s.holder) (HoldsIfHeld s.holder) r s.marks (λ k h. record { holds = h.holds }) sound.held;
  unused = All-after (λ k. IsFound s.marks k × IsUnusedUnlessOpen k) IsUnusedUnlessOpen r s.marks
      (λ k both. unused-after s.marks s.queues r sound.queues sound.marked first k both.0 both.1)
      (All-and (IsFound s.marks) IsUnusedUnlessOpen (λ k. IsFound s.marks k × IsUnusedUnlessOpen k) s.marks (λ k found unless. (found, unless))
      (All-found s.marks sound.ascending) sound.unused);
  opened = All-after (HasQueueIfOpen s.queues) (HasQueueIfOpen (advance s.queues)) r s.marks (λ k has. opened-after s.queues r sound.queues k has) sound.opened;
  queues = IsQueues-advance s.queues sound.queues;
  marked = marked-advance (map (mark_after r) s.marks) s.queues (marked-rest r s.marks s.queues sound.marked);
  words = record { some = rw same sound.words.some; few = rw same sound.words.few };
}

-- ---- how the marks grow

pub MarksGrow-after : (r : Ran) (marks : List Mark) → MarksGrow marks (map (mark_after r) marks)
MarksGrow-after r marks c k found =
    (mark_after r k, found-after r c marks k found, inr (record { inc = refl; num = refl; stage = inl refl; received = omega arith; ended = λ t. t }))

-- ---- what runs, and the handler afterwards

-- the first task, and the first entry
pub first-entry : (c : Core) (t : Task) → first_task c ≡ Some t → IsFirst (ran_of t) c.state.queues
first-entry c t first = by (front c.state.queues) refl
  where
    by : (f : Option (Block × ℕ × Entry)) → front c.state.queues ≡ f → IsFirst (ran_of t) c.state.queues
    by None none = absurd (none-some _ (sym (ap (option_map (task_of c)) none) ∙ first))
    by (Some f) some =
        let is : task_of c f ≡ t = same_Some (task_of c f) t (sym (ap (option_map (task_of c)) some) ∙ first) in
        some ∙ ap (λ (x : Task). Some (x.block, x.number, x.entry)) is

first-words : (c : Core) (t : Task) → first_task c ≡ Some t → t.words ≡ c.state.words
first-words c t first = by (front c.state.queues) refl
  where
    by : (f : Option (Block × ℕ × Entry)) → front c.state.queues ≡ f → t.words ≡ c.state.words
    by None none = absurd (none-some _ (sym (ap (option_map (task_of c)) none) ∙ first))
    by (Some f) some =
        let is : task_of c f ≡ t = same_Some (task_of c f) t (sym (ap (option_map (task_of c)) some) ∙ first) in
        sym (ap (λ (x : Task). x.words) is)

pub words-after : (c : Core) (t : Task) → first_task c ≡ Some t → length (task_effect t).0 ≡ length c.state.words
words-after c t first = length-entry_effect t.class t.words t.entry ∙ ap length (first-words c t first)

pub IsState-after : (c : Core) (t : Task) → first_task c ≡ Some t → IsState c.state → IsState (after t c.state)
IsState-after c t first sound = IsState-after_ran (ran_of t) (task_effect t).0 c.state (first-entry c t first) (words-after c t first) sound

pub IsCore-finished : (c : Core) (t : Task) → first_task c ≡ Some t → IsCore c → IsCore (finished t c)
IsCore-finished c t first sound = record {
  state = IsState-after c t first sound.state;
  words = words-after c t first ∙ sound.words;
  job = λ out. absurd (true≢false (sym out));
}

-- the handler whose state changed as a run changes it
pub IsCore-ran : (c : Core) (r : Ran) (words : List ℕ) → IsCore c → IsFirst r c.state.queues → words ≡ (entry_effect c.class c.state.words r.entry).0
    → IsCore (core_of c.class (after_ran r words c.state) false)
IsCore-ran c r words sound first in_words =
    let same : length words ≡ length c.state.words = ap length in_words ∙ length-entry_effect c.class c.state.words r.entry in
    record {
      state = IsState-after_ran r words c.state first same sound.state;
      words = same ∙ sound.words;
      job = λ out. absurd (true≢false (sym out));
    }

pub job-first : (c : Core) (t : Task) → job_out c ≡ Some t → first_task c ≡ Some t
job-first c t is = by c.out refl
  where
    by : (b : Bool) → c.out ≡ b → first_task c ≡ Some t
    by true out = rw out at is
    by false out = absurd (none-some _ (rw out at is))

pub ready-first : (c : Core) (t : Task) → ready c ≡ Some t → first_task c ≡ Some t
ready-first c t is = by c.out refl
  where
    by : (b : Bool) → c.out ≡ b → first_task c ≡ Some t
    by true out = absurd (none-some _ (rw out at is))
    by false out = rw out at is

pub job-class : (c : Core) (t : Task) → job_out c ≡ Some t → t.class ≡ c.class
job-class c t is = by (front c.state.queues) refl
  where
    by : (f : Option (Block × ℕ × Entry)) → front c.state.queues ≡ f → t.class ≡ c.class
    by None none = absurd (none-some _ (sym (ap (option_map (task_of c)) none) ∙ job-first c t is))
    by (Some f) some =
        let same : task_of c f ≡ t = same_Some (task_of c f) t (sym (ap (option_map (task_of c)) some) ∙ job-first c t is) in
        sym (ap (λ (x : Task). x.class) same)

-- ---- the handler at each call

pub IsCore-begun : (c : Core) → IsCore c → IsCore (begun c)
IsCore-begun c sound = record {
  state = sound.state;
  words = sound.words;
  job = by c.out refl (front c.state.queues) refl;
}
  where
    by : (b : Bool) → c.out ≡ b → (f : Option (Block × ℕ × Entry)) → front c.state.queues ≡ f → IsTrue (begun c).out → IsTrue (is_some (front c.state.queues))
    by true out f is h = sound.job out
    by false out None is h = absurd (true≢false (sym (rw (out, is) at h)))
    by false out (Some f) is h = rw is refl

pub IsCore-run : (c : Core) → IsCore c → IsCore (run c)
IsCore-run c sound = by (ready c) refl
  where
    by : (o : Option Task) → ready c ≡ o → IsCore (run c)
    by None none = rw none sound
    by (Some t) some = rw some (IsCore-finished c t (ready-first c t some) sound)

-- the entry that runs stands at the front, and is taken
pub run-front : (c : Core) (t : Task) → ready c ≡ Some t → front c.state.queues ≡ Some (t.block, t.number, t.entry)
run-front c t is = first-entry c t (ready-first c t is)

pub job-front : (c : Core) (t : Task) → job_out c ≡ Some t → front c.state.queues ≡ Some (t.block, t.number, t.entry)
job-front c t is = first-entry c t (job-first c t is)

-- only a query's answer is kept
map-same : (r : Ran) (marks : List Mark) → is_query r.entry ≡ false → map (mark_after r) marks ≡ marks
map-same r [] other = refl
map-same r (k ∷ ks) other =
    let first : mark_after r k ≡ k = rw other refl in
    rw (first, map-same r ks other) refl

pub marks-unless-query : (r : Ran) (marks : List Mark) → is_query r.entry ≡ false → marks ≡ map (mark_after r) marks
marks-unless-query r marks other = sym (map-same r marks other)

-- the mark of another block stays
pub mark-of-another : (r : Ran) (k : Mark) → same_block (block_of k) r.block ≡ false → mark_after r k ≡ k
mark-of-another r k other = by (is_query r.entry) refl
  where
    by : (t : Bool) → is_query r.entry ≡ t → mark_after r k ≡ k
    by true is = rw (is, other) refl
    by false is = rw is refl
