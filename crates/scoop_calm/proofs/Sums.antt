-- Sums that stop at the greatest number, item by item.
use Rattle.std.proofs.Common.{◌≡◌, ℕ, zero, suc, true, ◌+◌, ◌-◌, ◌^◌, ◌<◌, ◌≤◌, List, [], ◌∷◌, map, length, drop, slice_get, find, Option, Some, None, refl, ap, arith, min, ◌∙◌, sym}
use Rattle.std.proofs.Math.Seq.{drop-length}
use Rattle.std.proofs.lemmas.Bool.Decides.{nat_tests}
use Rattle.std.specs.Option.{option_map, option_map_or}
use Rattle.std.specs.Prelude.{filter, not, if◌then◌else◌}
use Rattle.scoop_message.specs.Entry.{is_end}
use Rattle.scoop_message.specs.Message.{same_block}
use Rattle.scoop_message.specs.declared.name.Block.{Block}
use Rattle.scoop_message.specs.declared.name.HandlerId.{HandlerId}
use Rattle.scoop_message.specs.declared.request.Entry.{Entry}
use Rattle.scoop_queue.specs.Queue.{PrivateQueue, has_queue, head_at, head_of, pending}
use Rattle.scoop_queue.specs.declared.state.Head.{Head}
use Rattle.scoop_queue.specs.Sound.{AreApart}
use Rattle.scoop_handler.specs.Marks.{is_held}
use Rattle.scoop_handler.specs.declared.mark.Mark.{Mark}
use Rattle.scoop_handler.specs.declared.mark.Stage.{Stage}
use Rattle.scoop_handler.specs.declared.mark.Stage.TheVariants.{Held, Open, Shut}
use Rattle.scoop_model.specs.World.{BlockLog, HandlerLog, Site, is_share_of}
use Rattle.scoop_world.specs.Kept.{entries_in}
use Rattle.scoop_world.specs.Standing.{Standing, standing}
use Rattle.scoop_calm.specs.Bound.{block_left, hold_left, share_left}
use Rattle.scoop_calm.specs.Capped.{capped, if_below}
use Rattle.scoop_calm.specs.Left.{queue_work, total}
use Rattle.scoop_calm.proofs.Names.{same_block_is, same_block_itself, true≢false}
use Rattle.scoop_calm.proofs.Blocks.{queue_there}
use Rattle.scoop_calm.proofs.Firsts.{drop_get}
use Rattle.scoop_calm.proofs.Lists.{member_at}

-- the sum so far, and what the items that are left are worth, are the sum of all
pub record Sums {A : Type 0} (f : A → ℕ) (xs : List A) (sum i : ℕ) : Type 0 where
  pub fits : sum < 2 ^ 64
  pub so_far : capped (sum + total f (drop i xs)) ≡ capped (total f xs)

module _ {A : Type 0} (f : A → ℕ) (xs : List A) (sum : ℕ) where
  pub one_more : (i : ℕ) (x : A) (more next : ℕ) → slice_get xs i ≡ Some x → more ≡ capped (f x) → next ≡ min (sum + more) (2 ^ 64 - 1)
      → Sums f xs sum i → Sums f xs next (i + 1)
  one_more i x more next at is added s =
      let split : total f (drop i xs) ≡ f x + total f (drop (i + 1) xs) = ap (total f) (drop_get xs i x at) in
      record {
        fits = omega (arith, added);
        so_far = omega (arith, split, is, added, s.so_far);
      }

  pub all_summed : (i : ℕ) → i ≡ length xs → Sums f xs sum i → sum ≡ capped (total f xs)
  all_summed i end s =
      let none : total f (drop i xs) ≡ 0 = ap (λ j. total f (drop j xs)) end ∙ ap (total f) (drop-length xs) in
      omega (arith, none, s.fits, s.so_far)

-- ---- numbers that fit

pub small_is : (n m : ℕ) → n < 2 ^ 64 → n ≡ m → n ≡ capped m
small_is n m fits is = omega (arith, fits, is)

pub both_are : (m n a b sum : ℕ) → a ≡ capped m → b ≡ capped n → sum ≡ min (a + b) (2 ^ 64 - 1) → sum ≡ capped (m + n)
both_are m n a b sum one other added = omega (arith, one, other, added)

pub below : (n r : ℕ) → r ≡ capped n → r < 2 ^ 64 - 1 → Some r ≡ if_below n
below n r is fits = grind (arith, nat_tests, is, fits)

pub above : (n r : ℕ) → r ≡ capped n → 2 ^ 64 - 1 ≤ r → None ≡ if_below n
above n r is past = grind (arith, nat_tests, is, past)

-- ---- calls and queries

abbrev pub requests : List Entry → ℕ
requests es = length (filter (λ e. not (is_end e)) es)

requests_from : (e : Entry) (es : List Entry) → requests (e ∷ es) ≡ (if is_end e then 0 else 1) + requests es
requests_from e es = grind arith

pub next_request : (es : List Entry) (i : ℕ) (e : Entry) → slice_get es i ≡ Some e
    → requests (drop i es) ≡ (if is_end e then 0 else 1) + requests (drop (i + 1) es)
next_request es i e at = ap requests (drop_get es i e at) ∙ requests_from e (drop (i + 1) es)

pub few_requests : (es : List Entry) → requests es ≤ length es
few_requests [] = omega arith
few_requests (e ∷ es) = let rest = few_requests es in grind (arith, rest)

pub no_requests : (es : List Entry) (i : ℕ) → i ≡ length es → requests (drop i es) ≡ 0
no_requests es i end = ap (λ j. requests (drop j es)) end ∙ ap requests (drop-length es)

-- ---- handlers

held_small : (stage : Stage) → (if is_held stage then 1 else 0) ≤ 1
held_small Held = omega arith
held_small Open = omega arith
held_small Shut = omega arith

pub held_fits : (k : Mark) (n : ℕ) → n ≡ hold_left k → n ≡ capped (hold_left k)
held_fits k n is = let small = held_small k.stage in omega (arith, small, is)

-- the private queue at a place is the one that is found by its block
pub pending_at : (qs : List PrivateQueue) (i : ℕ) (q : PrivateQueue) → AreApart qs → slice_get qs i ≡ Some q → pending q.block qs ≡ queue_work q
pending_at [] i q apart at = absurd (cc)
pending_at (x ∷ xs) zero q apart at =
    let one : x ≡ q = cc in
    let own : same_block q.block x.block ≡ true = ap (λ (y : PrivateQueue). same_block q.block y.block) one ∙ same_block_itself q.block in
    let size = ap queue_work one in
    grind (arith, own, size)
pending_at (x ∷ xs) (suc i) q apart at =
    let rest = pending_at xs i q apart.1 at in
    let there = queue_there q.block xs q (member_at xs i q at) refl in
    let other : same_block q.block x.block ≡ true → ⊥ = λ is. true≢false (sym (ap (λ b. has_queue b xs) (sym (same_block_is q.block x.block is)) ∙ there) ∙ apart.0) in
    grind (arith, rest, other)

pub record AtHead (qs : List PrivateQueue) (i : ℕ) (b : Block) : Type 0 where
  pub queue : PrivateQueue
  pub at : slice_get qs i ≡ Some queue
  pub pending : pending b qs ≡ queue_work queue

pub head_pending : (qs : List PrivateQueue) (i : ℕ) (h : Head) → AreApart qs → Some h ≡ head_at i qs → AtHead qs i h.block
head_pending qs i h apart e = from (slice_get qs i) refl e
  where
    from : (o : Option PrivateQueue) → slice_get qs i ≡ o → Some h ≡ option_map head_of o → AtHead qs i h.block
    from None at f = absurd (cc)
    from (Some q) at f =
        let same : h ≡ head_of q = cc in
        record { queue = q; at = at; pending = ap (λ (x : Head). pending x.block qs) same ∙ pending_at qs i q apart at }

-- the share of a handler, by its entries
pub share_at : (h : HandlerId) (k : Mark) (l : BlockLog) (b : Block) (es : List Entry) → b ≡ l.block → Some es ≡ entries_in h l.shares
    → share_left k b (record { handler = h; entries = es }) ≡ block_left h k l
share_at h k l b es block own = from (find (is_share_of h) l.shares) refl own
  where
    from : (o : Option HandlerLog) → find (is_share_of h) l.shares ≡ o → Some es ≡ option_map (λ x. x.entries) o
        → share_left k b (record { handler = h; entries = es }) ≡ block_left h k l
    from None at f = absurd (cc)
    from (Some x) at f =
        let same : es ≡ x.entries = cc in
        (λ j. share_left k (block j) (record { handler = h; entries = same j })) ∙ ap (λ y. option_map_or (share_left k l.block) y 0) (sym at)

-- the handlers, as they stand
pub total_standing : (f : Standing → ℕ) (ss : List Site) → total f (map standing ss) ≡ total (λ s. f (standing s)) ss
total_standing f [] = refl
total_standing f (s ∷ ss) = ap (λ n. f (standing s) + n) (total_standing f ss)
