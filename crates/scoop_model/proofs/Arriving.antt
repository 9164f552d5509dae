-- The entries that a handler reported as received have run there or are pending there. A handler has a slot for each block that opened
-- at it, with the block's entries that ran and those that wait. Together these are a beginning of the block's log, as long as the
-- greatest count that was sent. So all entries that any message reports have arrived, and they are the first.
use Rattle.scoop_model.proofs.Names.{◌≡◌, ℕ, List, [], ◌∷◌, ◌++◌, Some, None, refl, sym, ap, ◌∙◌, subst, arith, ◌≤◌, Option, true, take, false, true≢false}
use Rattle.scoop_model.proofs.Names.{◌||◌, take-append-le, AllByRecursion, option_map_or, same_block, Message, Block, HandlerId, same_block-sym, PrivateQueue}
use Rattle.scoop_model.proofs.Names.{QueueState, by_test, all_both, IsReached, IsSubsequence, World, ran_at, has_block, opened_at, log_of, received, count_in}
use Rattle.scoop_model.proofs.Names.{greatest_count}
use Rattle.scoop_model.specs.Received.{entries_in, queues_at, HasReceived, TellsReceived}
use Rattle.scoop_model.proofs.Order.{all_more_of, AreApart, same_block_is, same_block_itself}
use Rattle.scoop_model.proofs.Tape.{Slot, queue_at, queues_of, blocks_of, IsBegun, IsPart, left_apart, part_of, slot_parts}
use Rattle.scoop_model.proofs.Whole.{count_itself, told_entries}
use Rattle.scoop_model.proofs.Ready.{IsToldAs, IsOverIfGone, HandlerReady, Ready, reached_ready}

-- ---- what is pending of a block, by the slots

-- another block's queue holds nothing of it
other_queue : (s : Slot) (qs : List PrivateQueue) (b : Block) → same_block s.block b ≡ false → (o : Option QueueState)
    → entries_in b (queue_at s o ++ qs) ≡ entries_in b qs
other_queue s qs b other None = refl
other_queue s qs b other (Some u) = grind (arith, option_map_or, same_block-sym)

none_pending : (ss : List Slot) (b : Block) → has_block (blocks_of ss) b ≡ false → entries_in b (queues_of ss) ≡ []
none_pending [] b none = refl
none_pending (s ∷ ss) b none = grind (arith, other_queue, none_pending ss b)

-- the slot's own queue holds what waits in it
own_queue : (s : Slot) (ss : List Slot) → has_block (blocks_of ss) s.block ≡ false → (o : Option QueueState) → (o ≡ None → s.rest ≡ [])
    → entries_in s.block (queue_at s o ++ queues_of ss) ≡ s.rest
own_queue s ss apart None gone = none_pending ss s.block apart ∙ sym (gone refl)
own_queue s ss apart (Some u) gone = grind (arith, option_map_or, same_block_itself)

-- ---- what has arrived of a block

record IsArrived (w : World) (h : HandlerId) (t : Slot) : Type 0 where
  part : IsPart (ran_at h w) t
  begun : IsBegun (λ b. log_of b h w) t
  told : IsToldAs w h t
  gone : IsOverIfGone w h t

-- the block's slot, with what is pending of it in these queues
record PendingIn (w : World) (h : HandlerId) (b : Block) (qs : List PrivateQueue) : Type 0 where
  slot : Slot
  block : slot.block ≡ b
  has : IsArrived w h slot
  pending : entries_in b qs ≡ slot.rest

module _ (w : World) (h : HandlerId) where
  pending_slot : (ss : List Slot) (b : Block) → AreApart (blocks_of ss) → AllByRecursion (IsArrived w h) ss → has_block (blocks_of ss) b ≡ true
      → PendingIn w h b (queues_of ss)
  pending_slot [] b apart all e = absurd (true≢false (sym e))
  pending_slot (s ∷ ss) b apart all e =
      by_test (λ t. (t || has_block (blocks_of ss) b) ≡ true → same_block s.block b ≡ t → PendingIn w h b (queues_of (s ∷ ss))) (same_block s.block b)
      (λ _ _ is.
      let own : s.block ≡ b = same_block_is s.block b is in
      record {
        slot = s;
        block = own;
        has = all.0;
        pending = subst (λ d. entries_in d (queues_of (s ∷ ss)) ≡ s.rest) own (own_queue s ss apart.0 s.state all.0.gone.rest);
      })
      (λ _ f is.
      let later = pending_slot ss b apart.1 all.1 f in
      record { slot = later.slot; block = later.block; has = later.has; pending = other_queue s (queues_of ss) b is s.state ∙ later.pending })
      e refl

  module _ (ready : Ready w) where
    here : HandlerReady w h
    here = ready.handlers h

    apart : AreApart (blocks_of here.slots)
    apart = left_apart (subst (λ bs. IsSubsequence bs w.joint) here.opened here.left) ready.once

    arrived_slots : AllByRecursion (IsArrived w h) here.slots
    arrived_slots =
        all_both (IsPart (ran_at h w)) (λ t. IsBegun (λ b. log_of b h w) t × (IsToldAs w h t × IsOverIfGone w h t)) (IsArrived w h)
        (λ t p k. record { part = p; begun = k.0; told = k.1.0; gone = k.1.1 }) here.slots
        (slot_parts (ran_at h w) here.slots here.ran apart)
        (all_both (IsBegun (λ b. log_of b h w)) (λ t. IsToldAs w h t × IsOverIfGone w h t)
        (λ t. IsBegun (λ b. log_of b h w) t × (IsToldAs w h t × IsOverIfGone w h t)) (λ t x k. (x, k)) here.slots here.begun
        (all_both (IsToldAs w h) (IsOverIfGone w h) (λ t. IsToldAs w h t × IsOverIfGone w h t) (λ t x k. (x, k)) here.slots here.told here.gone))

    no_slots : (ss : List Slot) → [] ≡ blocks_of ss → [] ≡ queues_of ss
    no_slots [] e = refl
    no_slots (s ∷ ss) e = absurd (cc)

    -- the private queues of a handler, which are none where there is no such handler
    queues_there : queues_at h w ≡ queues_of here.slots
    queues_there = grind (arith, option_map_or, here, no_slots)

    slot_received : (b : Block) (n : ℕ) → n ≤ received b h w → PendingIn w h b (queues_of here.slots) → HasReceived w h b n
    slot_received b n le p = grind (arith, part_of, ran_at, told_entries, queues_there, received, take, take-append-le)

    pub has_received : (b : Block) (n : ℕ) → n ≤ received b h w → HasReceived w h b n
    has_received b n le =
        by_test (λ _. HasReceived w h b n) (has_block (opened_at h w) b)
        (λ e. slot_received b n le (pending_slot here.slots b apart arrived_slots (ap (λ bs. has_block bs b) (sym here.opened) ∙ e)))
        (λ e.
        let none = here.silent b e in
        let zero_count : 0 ≡ n = omega (arith, none, le) in
        subst (HasReceived w h b) zero_count (record { enough = omega arith; first = refl }))

-- ---- the counts that were sent

-- no message tells a greater count than the greatest
record IsCounted (ms : List Message) (m : Message) : Type 0 where
  counted : (h : HandlerId) (b : Block) → count_in h b m ≤ greatest_count h b ms

all_counted : (ms : List Message) → AllByRecursion (IsCounted ms) ms
all_counted [] = tt
all_counted (m ∷ ms) = grind (arith, all_more_of, all_counted ms)

tells_received : (w : World) → Ready w → (m : Message) → IsCounted w.sent m → TellsReceived w m
tells_received w ready m c = record {
  received = λ h b n is.
      let own : count_in h b m ≡ n = ap (count_in h b) is ∙ count_itself h b n in
      let le = c.counted h b in
      has_received w h ready b n (omega (arith, own, le));
}

pub logged_received : (w : World) → IsReached w → AllByRecursion (TellsReceived w) w.sent
logged_received w r = all_more_of (IsCounted w.sent) (TellsReceived w) (tells_received w (reached_ready w r)) w.sent (all_counted w.sent)
