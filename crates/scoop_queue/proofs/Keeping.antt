-- Each change of the private queues keeps what is true of them at any time. A change of one queue leaves at most one in
-- its place, of the same block (`Leaves`). So all stay apart, their number doesn't grow, and only that queue needs a
-- proof. A new queue goes last, if its block has none and there is room.
use Rattle.std.proofs.Common.{◌≡◌, ℕ, ◌+◌, ◌-◌, ◌^◌, ◌<◌, ◌≤◌, Bool, true, false, ◌&&◌, ◌||◌, ◌==◌, nat_le, nat_lt, if◌then◌else◌, IsTrue, List, [], ◌∷◌, ◌++◌}
use Rattle.std.proofs.Common.{length, Option, None, Some, refl, sym, ◌∙◌, subst, arith, true≢false, length-append}
use Rattle.std.specs.Bool.{⊤}
use Rattle.std.specs.List.{AllByRecursion}
use Rattle.std.proofs.lemmas.Bool.{leb-false, lt-leb, ltb-false}
use Rattle.scoop_message.specs.declared.limits.TheConstants.{MAX_QUEUES, MAX_PENDING}
use Rattle.scoop_message.specs.declared.name.Block.{Block}
use Rattle.scoop_message.specs.declared.request.Entry.{Entry}
use Rattle.scoop_message.specs.Entry.{is_end}
use Rattle.scoop_message.specs.Entries.{EndOnlyLast, ends}
use Rattle.scoop_message.specs.Message.{same_block}
use Rattle.scoop_queue.specs.declared.error.AppendError.{AppendError}
use Rattle.scoop_queue.specs.declared.error.AppendError.TheVariants.{QueueFull, AlreadyThere, BadQueue, OutOfMemory}
use Rattle.scoop_queue.specs.declared.state.Head.{Head}
use Rattle.scoop_queue.specs.declared.state.QueueState.{QueueState}
use Rattle.scoop_queue.specs.declared.state.QueueState.TheVariants.{Open, Ended, Cut}
use Rattle.scoop_queue.specs.Queue.{PrivateQueue, advance, at_block, cut, cut_open, goes_with, has_queue, head_of, is_cut, is_ended, is_open, is_queue_of}
use Rattle.scoop_queue.specs.Queue.{left_by_cut, left_by_first, new_queue, opened, put_all, queue_of, queue_with, with_entries}
use Rattle.scoop_queue.specs.Refusal.{AppendRefused, HasNumbersFor, MayAppend, open_refusal, put_refusal, refusal_at}
use Rattle.scoop_queue.specs.Sound.{AreApart, FitsNumbers, IsQueue, IsQueues, number_limit}
use Rattle.scoop_queue.proofs.Ends.{EndOnlyLast-append, EndOnlyLast-tail, ends-append}
use Rattle.scoop_queue.proofs.Lookup.{absent-first, absent-rest, same_block-sym}

-- a change leaves at most one queue, which is of the same block
abbrev pub Leaves : PrivateQueue → List PrivateQueue → Type 0
Leaves q [] = ⊤
Leaves q (r ∷ []) = r.block ≡ q.block
Leaves q (r ∷ s ∷ rs) = ⊥

pub leaves-cut : (q : PrivateQueue) → Leaves q (left_by_cut q)
leaves-cut q = by (is_open q.state) q.entries
  where
    by : (t : Bool) (es : List Entry) → Leaves q (if t then cut_open q es else q ∷ [])
    by true [] = tt
    by true (e ∷ es) = refl
    by false es = refl

pub leaves-first : (q : PrivateQueue) (es : List Entry) → Leaves q (left_by_first q es)
leaves-first q [] = refl
leaves-first q (e ∷ es) = elim (goes_with q.state e es) as (λ t. Leaves q
    (if t then [] else record { block = q.block; first = q.first + 1; entries = es; state = q.state } ∷ [])) [ true ↦ tt | false ↦ refl ]

leaves-absent : (b : Block) (q : PrivateQueue) (left qs : List PrivateQueue) → Leaves q left → is_queue_of b q ≡ false → has_queue b qs ≡ false
    → has_queue b (left ++ qs) ≡ false
leaves-absent b q [] qs leaves other none = none
leaves-absent b q (r ∷ []) qs leaves other none =
    let still : is_queue_of b r ≡ false = subst (λ (d : Block). same_block b d ≡ false) (sym leaves) other in
    rw still none
leaves-absent b q (r ∷ s ∷ rs) qs leaves other none = absurd leaves

leaves-apart : (q : PrivateQueue) (left qs : List PrivateQueue) → Leaves q left → AreApart (q ∷ qs) → AreApart (left ++ qs)
leaves-apart q [] qs leaves apart = apart.1
leaves-apart q (r ∷ []) qs leaves apart = (subst (λ (d : Block). has_queue d qs ≡ false) (sym leaves) apart.0, apart.1)
leaves-apart q (r ∷ s ∷ rs) qs leaves apart = absurd leaves

leaves-length : (q : PrivateQueue) (left qs : List PrivateQueue) → Leaves q left → length (left ++ qs) ≤ length (q ∷ qs)
leaves-length q [] qs leaves = omega arith
leaves-length q (r ∷ []) qs leaves = omega arith
leaves-length q (r ∷ s ∷ rs) qs leaves = absurd leaves

module _ (b : Block) (change : PrivateQueue → List PrivateQueue) (leaves : (q : PrivateQueue) → Leaves q (change q)) where
  -- a block without a queue gets none
  pub at_block-none : (d : Block) (qs : List PrivateQueue) → has_queue d qs ≡ false → has_queue d (at_block b change qs) ≡ false
  at_block-none d [] none = refl
  at_block-none d (q ∷ qs) none =
      let first : is_queue_of d q ≡ false = absent-first d q qs none in
      let rest : has_queue d qs ≡ false = absent-rest d q qs none in
      let later : has_queue d (at_block b change qs) ≡ false = at_block-none d qs rest in
      elim (is_queue_of b q) as (λ t. has_queue d (if t then change q ++ qs else q ∷ at_block b change qs) ≡ false)
      [ true ↦ leaves-absent d q (change q) qs (leaves q) first rest | false ↦ rw first later ]

  at_block-apart : (qs : List PrivateQueue) → AreApart qs → AreApart (at_block b change qs)
  at_block-apart [] apart = tt
  at_block-apart (q ∷ qs) apart =
      elim (is_queue_of b q) as (λ t. AreApart (if t then change q ++ qs else q ∷ at_block b change qs))
      [ true ↦ leaves-apart q (change q) qs (leaves q) apart | false ↦ (at_block-none q.block qs apart.0, at_block-apart qs apart.1) ]

  at_block-length : (qs : List PrivateQueue) → length (at_block b change qs) ≤ length qs
  at_block-length [] = omega arith
  at_block-length (q ∷ qs) =
      let later : length (at_block b change qs) ≤ length qs = at_block-length qs in
      elim (is_queue_of b q) as (λ t. length (if t then change q ++ qs else q ∷ at_block b change qs) ≤ length (q ∷ qs))
      [ true ↦ leaves-length q (change q) qs (leaves q) | false ↦ omega (arith, later) ]

each-append : (xs ys : List PrivateQueue) → AllByRecursion IsQueue xs → AllByRecursion IsQueue ys → AllByRecursion IsQueue (xs ++ ys)
each-append [] ys each more = more
each-append (x ∷ xs) ys each more = (each.0, each-append xs ys each.1 more)

at_block-first : (b : Block) (change : PrivateQueue → List PrivateQueue) (q : PrivateQueue) (qs : List PrivateQueue) → AllByRecursion IsQueue (q ∷ qs)
    → (is_queue_of b q ≡ true → AllByRecursion IsQueue (change q))
    → (is_queue_of b q ≡ false → AllByRecursion IsQueue (at_block b change qs)) → AllByRecursion IsQueue (at_block b change (q ∷ qs))
at_block-first b change q qs each here later = by (is_queue_of b q) refl
  where
    by : (t : Bool) → is_queue_of b q ≡ t → AllByRecursion IsQueue (at_block b change (q ∷ qs))
    by true is = rw is (each-append (change q) qs (here is) each.1)
    by false is = rw is (each.0, later is)

at_block-each : (b : Block) (change : PrivateQueue → List PrivateQueue) (qs : List PrivateQueue) → AllByRecursion IsQueue qs
    → ((q : PrivateQueue) → queue_of b qs ≡ Some q → IsQueue q → AllByRecursion IsQueue (change q)) → AllByRecursion IsQueue (at_block b change qs)
at_block-each b change [] each kept = tt
at_block-each b change (q ∷ qs) each kept =
    at_block-first b change q qs each (λ is. kept q (rw is refl) each.0)
    (λ is. at_block-each b change qs each.1 (λ r found sound. kept r (rw is found) sound))

-- a change of one block's queue keeps what is true of all
pub IsQueues-at_block : (b : Block) (change : PrivateQueue → List PrivateQueue) (qs : List PrivateQueue) → IsQueues qs
    → ((q : PrivateQueue) → Leaves q (change q))
    → ((q : PrivateQueue) → queue_of b qs ≡ Some q → IsQueue q → AllByRecursion IsQueue (change q)) → IsQueues (at_block b change qs)
IsQueues-at_block b change qs sound leaves kept = record {
  limit = omega (arith, at_block-length b change leaves qs, sound.limit);
  apart = at_block-apart b change leaves qs sound.apart;
  each = at_block-each b change qs sound.each kept;
}

-- the queue with new entries
open-not-ended : (s : QueueState) → is_open s ≡ true → is_ended s ≡ false
open-not-ended Open is = refl
open-not-ended Ended is = absurd (true≢false (sym is))
open-not-ended Cut is = refl

ended-as : (s : QueueState) (t : Bool) → is_open s ≡ true → t ≡ is_ended (if t then Ended else s)
ended-as s true is = refl
ended-as s false is = sym (open-not-ended s is)

pub IsQueue-with_entries : (es : List Entry) (q : PrivateQueue) → IsQueue q → is_open q.state ≡ true → 0 < length es → EndOnlyLast es
    → length q.entries + length es ≤ MAX_PENDING → FitsNumbers (with_entries es q) → IsQueue (with_entries es q)
IsQueue-with_entries es q sound is some end room numbers =
    let not_ended : ends q.entries ≡ false = sound.ended ∙ open-not-ended q.state is in
    record {
      first = sound.first;
      limit = omega (arith, length-append q.entries es, room);
      numbers = numbers;
      end = EndOnlyLast-append q.entries es sound.end not_ended end;
      ended = ends-append q.entries es some ∙ ended-as q.state (ends es) is;
      some = λ _. omega (arith, length-append q.entries es, some);
    }

-- the facts that the absence of a refusal gives
pub put-fits : (n : ℕ) (q : PrivateQueue) → refusal_at n (Some q) ≡ None → (is_open q.state ≡ true) × (length q.entries + n ≤ MAX_PENDING)
put-fits n q fits = by (is_open q.state) refl (nat_lt MAX_PENDING (length q.entries + n)) refl
  where
    by : (s : Bool) → is_open q.state ≡ s → (t : Bool) → nat_lt MAX_PENDING (length q.entries + n) ≡ t → (is_open q.state ≡ true)
        × (length q.entries + n ≤ MAX_PENDING)
    by true is true full = let none = rw (is, full) at fits in cc
    by true is false room = (is, ltb-false _ _ room)
    by false is t full = let none = rw is at fits in cc

pub IsQueues-put_all : (b : Block) (es : List Entry) (qs : List PrivateQueue) → IsQueues qs → 0 < length es → EndOnlyLast es → HasNumbersFor b es qs
    → put_refusal b (length es) qs ≡ None → IsQueues (put_all b es qs)
IsQueues-put_all b es qs sound some end numbers fits =
    IsQueues-at_block b (λ q. with_entries es q ∷ []) qs sound (λ q. refl)
    (λ q found each.
    let at : refusal_at (length es) (Some q) ≡ None = subst (λ (o : Option PrivateQueue). refusal_at (length es) o ≡ None) found fits in
    let room = put-fits (length es) q at in
    (IsQueue-with_entries es q each room.0 some end room.1 (numbers q found room.0), tt))

-- the queue that is cut
IsQueue-cut_open : (q : PrivateQueue) (es : List Entry) → IsQueue q → is_open q.state ≡ true → q.entries ≡ es → AllByRecursion IsQueue (cut_open q es)
IsQueue-cut_open q [] sound is are = tt
IsQueue-cut_open q (e ∷ es) sound is are =
    let limit : length (e ∷ es) ≤ MAX_PENDING = rw are at sound.limit in
    let numbers : q.first + length (e ∷ es) ≤ 2 ^ 32 - 1 = rw (are, is) at sound.numbers.next in
    let end : EndOnlyLast (e ∷ es) = rw are at sound.end in
    let ended : ends (e ∷ es) ≡ is_ended q.state = rw are at sound.ended in
    let left : IsQueue (record { block = q.block; first = q.first; entries = e ∷ es; state = Cut }) = record {
      first = sound.first;
      limit = limit;
      numbers = record { next = omega (arith, numbers) };
      end = end;
      ended = ended ∙ open-not-ended q.state is;
      some = λ _. omega arith;
    } in
    (left, tt)

IsQueue-cut : (q : PrivateQueue) → IsQueue q → AllByRecursion IsQueue (left_by_cut q)
IsQueue-cut q sound = by (is_open q.state) refl
  where
    by : (t : Bool) → is_open q.state ≡ t → AllByRecursion IsQueue (left_by_cut q)
    by true is = rw is (IsQueue-cut_open q q.entries sound is refl)
    by false is = rw is (sound, tt)

pub IsQueues-cut : (b : Block) (qs : List PrivateQueue) → IsQueues qs → IsQueues (cut b qs)
IsQueues-cut b qs sound = IsQueues-at_block b left_by_cut qs sound leaves-cut (λ q found each. IsQueue-cut q each)

-- the queue without its first entry
neither : (s t : Bool) → (s || t) ≡ false → (s ≡ false) × (t ≡ false)
neither true t none = absurd (true≢false none)
neither false t none = (refl, none)

stays-open : (s : QueueState) (e : Entry) (es : List Entry) → goes_with s e es ≡ false → (is_end e ≡ false) × (IsTrue (is_cut s) → 0 < length es)
stays-open s e [] stays =
    let p = neither (is_end e) (is_cut s && true) stays in
    (p.0, λ is. absurd (true≢false (rw is at p.1)))
stays-open s e (f ∷ es) stays = ((neither (is_end e) (is_cut s && length (f ∷ es) == 0) stays).0, λ _. omega arith)

tail-ended : (e : Entry) (es : List Entry) (t : Bool) → is_end e ≡ false → ends (e ∷ es) ≡ t → ends es ≡ t
tail-ended e [] t no_end ended = sym no_end ∙ ended
tail-ended e (f ∷ es) t no_end ended = ended

IsQueue-tail : (q : PrivateQueue) (e : Entry) (es : List Entry) → IsQueue q → q.entries ≡ e ∷ es → goes_with q.state e es ≡ false
    → IsQueue (record { block = q.block; first = q.first + 1; entries = es; state = q.state })
IsQueue-tail q e es sound are stays =
    let open_still = stays-open q.state e es stays in
    let limit : length (e ∷ es) ≤ MAX_PENDING = rw are at sound.limit in
    let numbers : q.first + length (e ∷ es) ≤ number_limit q.state = rw are at sound.numbers.next in
    let end : EndOnlyLast (e ∷ es) = rw are at sound.end in
    let ended : ends (e ∷ es) ≡ is_ended q.state = rw are at sound.ended in
    record {
      first = omega (arith, sound.first);
      limit = omega (arith, limit);
      numbers = record { next = omega (arith, numbers) };
      end = EndOnlyLast-tail e es end;
      ended = tail-ended e es (is_ended q.state) open_still.0 ended;
      some = open_still.1;
    }

IsQueue-first : (q : PrivateQueue) (es : List Entry) → IsQueue q → q.entries ≡ es → AllByRecursion IsQueue (left_by_first q es)
IsQueue-first q [] sound are = (sound, tt)
IsQueue-first q (e ∷ es) sound are = by (goes_with q.state e es) refl
  where
    by : (t : Bool) → goes_with q.state e es ≡ t → AllByRecursion IsQueue (left_by_first q (e ∷ es))
    by true goes = rw goes tt
    by false stays = rw stays (IsQueue-tail q e es sound are stays, tt)

pub IsQueues-advance : (qs : List PrivateQueue) → IsQueues qs → IsQueues (advance qs)
IsQueues-advance [] sound = sound
IsQueues-advance (q ∷ qs) sound =
    let leaves = leaves-first q q.entries in
    record {
      limit = omega (arith, leaves-length q (left_by_first q q.entries) qs leaves, sound.limit);
      apart = leaves-apart q (left_by_first q q.entries) qs leaves sound.apart;
      each = each-append (left_by_first q q.entries) qs (IsQueue-first q q.entries sound.each.0 refl) sound.each.1;
    }

-- one more queue
absent-append : (b : Block) (q : PrivateQueue) (qs : List PrivateQueue) → has_queue b qs ≡ false → is_queue_of b q ≡ false → has_queue b (qs ++ q ∷ []) ≡ false
absent-append b q [] none other = rw other refl
absent-append b q (r ∷ qs) none other =
    let first : is_queue_of b r ≡ false = absent-first b r qs none in
    rw first (absent-append b q qs (absent-rest b r qs none) other)

apart-append : (q : PrivateQueue) (qs : List PrivateQueue) → AreApart qs → has_queue q.block qs ≡ false → AreApart (qs ++ q ∷ [])
apart-append q [] apart none = (refl, tt)
apart-append q (r ∷ qs) apart none =
    let other : is_queue_of r.block q ≡ false = same_block-sym q.block r.block (absent-first q.block r qs none) in
    (absent-append r.block q qs apart.0 other, apart-append q qs apart.1 (absent-rest q.block r qs none))

pub IsQueues-append : (q : PrivateQueue) (qs : List PrivateQueue) → IsQueues qs → length qs < MAX_QUEUES → has_queue q.block qs ≡ false → IsQueue q
    → IsQueues (qs ++ q ∷ [])
IsQueues-append q qs sound room none each = record {
  limit = omega (arith, length-append qs (q ∷ []), room);
  apart = apart-append q qs sound.apart none;
  each = each-append qs (q ∷ []) sound.each (each, tt);
}

pub IsQueue-new : (b : Block) → IsQueue (new_queue b)
IsQueue-new b = record {
  first = omega arith;
  limit = omega arith;
  numbers = record { next = omega arith };
  end = refl;
  ended = refl;
  some = λ h. absurd (true≢false (sym h));
}

pub open-fits : (b : Block) (qs : List PrivateQueue) → open_refusal b qs ≡ None → (length qs < MAX_QUEUES) × (has_queue b qs ≡ false)
open-fits b qs fits = by (nat_le MAX_QUEUES (length qs)) refl (has_queue b qs) refl
  where
    by : (s : Bool) → nat_le MAX_QUEUES (length qs) ≡ s → (t : Bool) → has_queue b qs ≡ t → (length qs < MAX_QUEUES) × (has_queue b qs ≡ false)
    by true full t there = let none = rw full at fits in cc
    by false room true there = let none = rw (room, there) at fits in cc
    by false room false there = (leb-false _ _ room, there)

pub IsQueues-opened : (b : Block) (qs : List PrivateQueue) → IsQueues qs → open_refusal b qs ≡ None → IsQueues (opened b qs)
IsQueues-opened b qs sound fits =
    let room = open-fits b qs fits in
    IsQueues-append (new_queue b) qs sound room.0 room.1 (IsQueue-new b)

pub IsQueues-appended : (h : Head) (es : List Entry) (qs : List PrivateQueue) → IsQueues qs → MayAppend h es qs → IsQueues (qs ++ queue_with h es ∷ [])
IsQueues-appended h es qs sound fits =
    let room = open-fits h.block qs fits.0 in
    IsQueues-append (queue_with h es) qs sound room.0 room.1 fits.1

-- a block in the middle has no queue before
absent-inside : (b : Block) (q : PrivateQueue) (xs ys : List PrivateQueue) → has_queue b (xs ++ q ∷ ys) ≡ false → is_queue_of b q ≡ false
absent-inside b q [] ys none = absent-first b q ys none
absent-inside b q (x ∷ xs) ys none = absent-inside b q xs ys (absent-rest b x (xs ++ q ∷ ys) none)

pub apart-before : (q : PrivateQueue) (xs ys : List PrivateQueue) → AreApart (xs ++ q ∷ ys) → has_queue q.block xs ≡ false
apart-before q [] ys apart = refl
apart-before q (x ∷ xs) ys apart =
    let other : is_queue_of q.block x ≡ false = same_block-sym x.block q.block (absent-inside x.block q xs ys apart.0) in
    rw other (apart-before q xs ys apart.1)

pub each-inside : (q : PrivateQueue) (xs ys : List PrivateQueue) → AllByRecursion IsQueue (xs ++ q ∷ ys) → IsQueue q
each-inside q [] ys each = each.0
each-inside q (x ∷ xs) ys each = each-inside q xs ys each.1

-- one of the private queues may be appended to those before it
pub may-append : (q : PrivateQueue) (xs ys : List PrivateQueue) → IsQueues (xs ++ q ∷ ys) → MayAppend (head_of q) q.entries xs
may-append q xs ys sound =
    let room : nat_le MAX_QUEUES (length xs) ≡ false = lt-leb _ _ (omega (arith, length-append xs (q ∷ ys), sound.limit)) in
    let none : has_queue q.block xs ≡ false = apart-before q xs ys sound.apart in
    (rw (room, none) refl, each-inside q xs ys sound.each)

-- memory is the only reason to refuse what may be appended
pub memory-alone : (h : Head) (es : List Entry) (qs : List PrivateQueue) (e : AppendError) → MayAppend h es qs → AppendRefused h es qs e → e ≡ OutOfMemory
memory-alone h es qs QueueFull may refused = let clash = sym may.0 ∙ refused in cc
memory-alone h es qs AlreadyThere may refused = let clash = sym may.0 ∙ refused in cc
memory-alone h es qs BadQueue may refused = absurd (refused.1 may.1)
memory-alone h es qs OutOfMemory may refused = refl

-- the number after the first one
pub number-fits : (q : PrivateQueue) (e : Entry) (es : List Entry) → IsQueue q → q.entries ≡ e ∷ es → goes_with q.state e es ≡ false → q.first + 1 < 2 ^ 32
number-fits q e es sound are stays = by q.state es left.ended left.some left.numbers.next
  where
    left : IsQueue (record { block = q.block; first = q.first + 1; entries = es; state = q.state })
    left = IsQueue-tail q e es sound are stays

    by : (s : QueueState) (fs : List Entry) → ends fs ≡ is_ended s → (IsTrue (is_cut s) → 0 < length fs) → q.first + 1 + length fs ≤ number_limit s
        → q.first + 1 < 2 ^ 32
    by Open fs ended some numbers = omega (arith, numbers)
    by Ended [] ended some numbers = absurd (true≢false (sym ended))
    by Ended (f ∷ fs) ended some numbers = omega (arith, numbers)
    by Cut fs ended some numbers = omega (arith, numbers, some refl)

-- the block plays no part
pub IsQueue-rebound : (b d : Block) (first : ℕ) (entries : List Entry) (state : QueueState)
    → IsQueue (record { block = d; first = first; entries = entries; state = state })
    → IsQueue (record { block = b; first = first; entries = entries; state = state })
IsQueue-rebound b d first entries state sound = record {
  first = sound.first;
  limit = sound.limit;
  numbers = record { next = sound.numbers.next };
  end = sound.end;
  ended = sound.ended;
  some = sound.some;
}
