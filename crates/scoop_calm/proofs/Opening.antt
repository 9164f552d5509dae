-- A client that opens its block can open it wherever there is room for a private queue.
use Rattle.scoop_calm.proofs.Names.{◌≡◌, inl, inr, ◌+◌, ◌<◌, ◌≤◌, ◌||◌, true, false, true≢false, IsTrue, List, [], ◌∷◌, ◌++◌, length, Option, Some, None, refl}
use Rattle.scoop_calm.proofs.Names.{sym, ap, ◌∙◌, subst, ⊎_elim, arith, same_Some, Block, ends, same_block, QueueState, IsQueue, Mark, is_open, block_of}
use Rattle.scoop_calm.proofs.Names.{mark_of, IsState, IsUnused, IsUnusedUnlessOpen, HasMark, no_queue_yet, HasMark-fits, All-mark_of, World, Site, number_of}
use Rattle.scoop_calm.proofs.Names.{has_block, greatest_count, by_test, same_block_is, Upto, IsReachedIn, Slot, slot_queue, queue_at, queues_of, blocks_of}
use Rattle.scoop_calm.proofs.Names.{MarkTold, IsPassed, IsDone, SlotWhole, SiteTaped, Member, ◌⊎◌, ◌==◌, not, if◌then◌else◌, nat_tests, MAX_QUEUES, HandlerId}
use Rattle.scoop_calm.proofs.Names.{Open, Opened, AtHeld, OpenedHere, Known, IsCore, is_held, HandlerState, hear_open, with_queue, Opening, has, without}
use Rattle.scoop_calm.proofs.Names.{ReservationState, OpenedNote, ClientState, heard, hear_step, stepped, Party, id_of, is_site, site_of, party_of}
use Rattle.scoop_calm.proofs.Names.{newest_block, IsReached, same_block_itself, IsHeldIn, all_found, own_site, IsPastIn, StandsIn, StandsAt, StageStands}
use Rattle.scoop_calm.proofs.Names.{stage_work, is_open_at}
use Rattle.scoop_calm.proofs.Lists.{all_member, member_more, some_if_ends, less_without}
use Rattle.scoop_reserve.specs.Due as owed
use Rattle.scoop_reserve.specs.Hearing as reservation
use Rattle.scoop_calm.specs.declared.next.Next.TheVariants as next
use Rattle.scoop_calm.proofs.Moves.{Helps}
use Rattle.scoop_calm.proofs.Talk.{MarkAt, Replies, asks_useful, heard_of, stepped_id, stepped_less, due_reserved, block_fits, welcome, own_windows, own_mark}
use Rattle.scoop_calm.proofs.Everything.{AllFacts}

-- -------- A block that has opened at a handler, while its client is in the same incarnation, is open there.

-- ---- slots

-- the slot of a block that has opened
pub record SlotOf (ss : List Slot) (b : Block) : Type 0 where
  pub slot : Slot
  pub in_list : Member slot ss
  pub block : slot.block ≡ b

pub slot_of : (ss : List Slot) (b : Block) → has_block (blocks_of ss) b ≡ true → SlotOf ss b
slot_of [] b e = absurd (true≢false (sym e))
slot_of (t ∷ ts) b e =
    by_test (λ y. (y || has_block (blocks_of ts) b) ≡ true → SlotOf (t ∷ ts) b) (same_block t.block b)
    (λ is f. record { slot = t; in_list = inl refl; block = same_block_is t.block b is })
    (λ is f. let s = slot_of ts b f in record { slot = s.slot; in_list = inr s.in_list; block = s.block }) e

member_behind : {A : Type 0} (x : A) (xs ys : List A) → Member x ys → Member x (xs ++ ys)
member_behind x [] ys m = m
member_behind x (z ∷ zs) ys m = inr (member_behind x zs ys m)

-- its private queue, while it has one
pub queue_member : (ss : List Slot) (t : Slot) (q : QueueState) → Member t ss → t.state ≡ Some q → Member (slot_queue t q) (queues_of ss)
queue_member [] t q m e = absurd m
queue_member (x ∷ xs) t q (inl same) e = subst (λ y. Member (slot_queue t q) (queue_at y y.state ++ queues_of xs)) (sym same)
    (member_more (slot_queue t q) (queue_at t t.state) (queues_of xs) (subst (λ o. Member (slot_queue t q) (queue_at t o)) (sym e) (inl refl)))
queue_member (x ∷ xs) t q (inr n) e = member_behind (slot_queue t q) (queue_at x x.state) (queues_of xs) (queue_member xs t q n e)

-- ---- the mark

module _ (w : World) (s : Site) (is : IsState s.core.state) (tape : SiteTaped w s) (b : Block) (k : Mark) (found : mark_of b.client s.core.state.marks ≡ Some k)
    (opened : has_block s.opened b ≡ true) where
  own_slot : SlotOf tape.slots b
  own_slot = slot_of tape.slots b (ap (λ bs. has_block bs b) (sym tape.tape.opened) ∙ opened)

  own_whole : SlotWhole w.sent (number_of s) s.core.state.marks own_slot.slot
  own_whole = all_member (SlotWhole w.sent (number_of s) s.core.state.marks) tape.slots own_slot.slot tape.whole own_slot.in_list

  -- the mark has reached the block
  pub opened_reached : Upto b.inc b.num k.inc k.num
  opened_reached =
      let r : IsReachedIn s.core.state.marks b = subst (IsReachedIn s.core.state.marks) own_slot.block own_whole.reached in
      subst (λ (x : Mark). Upto b.inc b.num x.inc x.num) (same_Some r.mark k (sym r.found ∙ found)) r.upto

  module _ (own : block_of k ≡ b) where
    -- a mark that isn't open has received nothing, so its block has no queue, and has not run
    not_closed : IsUnused k → is_open k.stage ≡ false → (o : Option QueueState) → own_slot.slot.state ≡ o → ⊥
    not_closed unused closed (Some q) at =
        let t = own_slot.slot in
        let m : Member (slot_queue t q) s.core.state.queues =
        subst (Member (slot_queue t q)) (sym tape.tape.queues) (queue_member tape.slots t q own_slot.in_list at) in
        let sound = all_member IsQueue s.core.state.queues (slot_queue t q) is.queues.each m in
        let marked = all_member (HasMark s.core.state.marks) s.core.state.queues (slot_queue t q) is.marked m in
        let there : mark_of t.block.client s.core.state.marks ≡ Some k = ap (λ (y : Block). mark_of y.client s.core.state.marks) own_slot.block ∙ found in
        no_queue_yet (slot_queue t q) k sound (HasMark-fits s.core.state.marks (slot_queue t q) k there marked) unused closed (own ∙ sym own_slot.block)
    not_closed unused closed None at =
        let t = own_slot.slot in
        let d : IsDone s.core.state.marks t = own_whole.gone at in
        ⊎_elim
        (λ (e : IsTrue (ends t.ran)).
        let told = (All-mark_of (MarkTold w.sent (number_of s)) b.client s.core.state.marks k tape.told.each found).received in
        let alike : greatest_count (number_of s) (block_of k) w.sent ≡ greatest_count (number_of s) t.block w.sent =
        ap (λ y. greatest_count (number_of s) y w.sent) (own ∙ sym own_slot.block) in
        omega (arith, told, own_whole.received, alike, some_if_ends t.ran e, unused.received))
        (λ (p : IsPassed s.core.state.marks t.block).
        let there : mark_of t.block.client s.core.state.marks ≡ Some k = ap (λ (y : Block). mark_of y.client s.core.state.marks) own_slot.block ∙ found in
        let one : p.mark ≡ k = same_Some p.mark k (sym p.found ∙ there) in
        let later : t.block.inc + 1 ≤ k.inc = subst (λ (x : Mark). t.block.inc + 1 ≤ x.inc) one p.upto.inc in
        omega (arith, later, ap (λ (y : Block). y.inc) (own ∙ sym own_slot.block)))
        d.whole

    pub opened_open : is_open k.stage ≡ true
    opened_open =
        by_test (λ t. t ≡ true) (is_open k.stage)
        (λ _. refl)
        (λ closed. absurd (not_closed ((All-mark_of IsUnusedUnlessOpen b.client s.core.state.marks k is.unused found).unused closed)
        closed own_slot.slot.state refl))

-- -------- A client that opens its block can open it wherever there is room for a private queue. Its mark at each handler of the
-- block is at that block, held or already open, since every handler granted the lock before. So the handler replies
-- Opened, and the client has one handler less to open.

-- ---- the handler

-- the block is open, or held with room for its queue
abbrev pub CanOpen : HandlerState → Mark → Type 0
CanOpen s k = (is_open k.stage ≡ true) ⊎ ((k.stage ≡ AtHeld) × ((length s.queues == MAX_QUEUES) ≡ false))

open_heard : (s : HandlerState) (b : Block) (k : Mark) → mark_of b.client s.marks ≡ Some k → k.inc ≡ b.inc → k.num ≡ b.num → CanOpen s k
    → Replies s (Open s.number b) (Opened s.number b)
open_heard s b k found inc num (inl open_here) = record {
  state = s;
  told = Known;
  is = heard_of s b k (hear_open s b) found inc (omega (arith, num)) ∙ grind (arith, nat_tests, num, open_here);
}
open_heard s b k found inc num (inr held) = record {
  state = with_queue s b k;
  told = OpenedHere b;
  is = heard_of s b k (hear_open s b) found inc (omega (arith, num)) ∙ grind (arith, nat_tests, num, held.1, ap is_open held.0, ap is_held held.0);
}

-- the test says so
can_open_test : (s : HandlerState) (b : Block) (k : Mark) → mark_of b.client s.marks ≡ Some k → k.num ≡ b.num → CanOpen s k
    → (is_open_at b (mark_of b.client s.marks) || not (length s.queues == MAX_QUEUES)) ≡ true
can_open_test s b k found num (inl open_here) = let test = ap (is_open_at b) found in grind (arith, nat_tests, test, num, open_here)
can_open_test s b k found num (inr held) = grind (arith, held.1)

-- ---- the client

abbrev after_opened : ReservationState → HandlerId → ReservationState
after_opened r h = reservation.one_opened r (without h r.left)

opening_owes : (r : ReservationState) (h : HandlerId) → r.stage ≡ Opening → has r.left h ≡ true → owed.due r h ≡ Some (Open h r.block)
opening_owes r h at is = ap (owed.due_in r h) at ∙ ap (λ t. if t then Some (Open h r.block) else None) is

opened_heard : (c : ClientState) (r : ReservationState) (h : HandlerId) → c.reservation ≡ Some r → r.stage ≡ Opening → has r.left h ≡ true
    → heard c (Opened h r.block) ≡ (stepped c (after_opened r h), OpenedNote h)
opened_heard c r h held at is = ap (hear_step c (Opened h r.block)) held ∙ grind (arith, ap (reservation.hear_opened r h) at, is, same_block_itself r.block)

opened_less : (r : ReservationState) (h : HandlerId) → r.stage ≡ Opening → has r.left h ≡ true
    → stage_work (after_opened r h) (after_opened r h).stage < stage_work r r.stage
opened_less r h at is = grind (arith, less_without h r.left is, ap (stage_work r) at)

-- ---- both

module _ (w : World) (r : IsReached w) (e : AllFacts w r) (p : Party) (at : party_of (id_of p) w ≡ Some p)
    (q : ReservationState) (held : p.client.reservation ≡ Some q) where
  -- the client's mark at a handler of its block, beside the block
  pub record OwnMark (h : HandlerId) : Type 0 where
    pub mark : MarkAt w p h
    pub found : mark_of q.block.client mark.site.core.state.marks ≡ Some mark.mark
    pub inc : mark.mark.inc ≡ q.block.inc
    pub num : mark.mark.num ≤ q.block.num

  pub beside : (h : HandlerId) → has q.handlers h ≡ true → OwnMark h
  beside h named =
      let m = own_mark w r e p at q held h named in
      let is : q.block ≡ newest_block p.client = (own_windows w r e p at q held).block in
      record {
        mark = m;
        found = ap (λ (y : Block). mark_of y.client m.site.core.state.marks) is ∙ m.there;
        inc = m.inc ∙ sym (ap (λ (y : Block). y.inc) is);
        num = omega (arith, m.num, ap (λ (y : Block). y.num) is);
      }

  pub client_is : q.block.client ≡ id_of p
  client_is = ap (λ (y : Block). y.client) (own_windows w r e p at q held).block

  -- where the block has opened, it is the mark's, and open
  pub is_open_there : (h : HandlerId) (o : OwnMark h) → has_block o.mark.site.opened q.block ≡ true → (o.mark.mark.num ≡ q.block.num)
      × (is_open o.mark.mark.stage ≡ true)
  is_open_there h o opened =
      let s = o.mark.site in
      let k = o.mark.mark in
      let core = all_found (λ (x : Site). IsCore x.core) (is_site h) w.sites s e.background.sound.sites o.mark.found in
      let tape = all_found (SiteTaped w) (is_site h) w.sites s e.background.taped o.mark.found in
      let up = (opened_reached w s core.state tape q.block k o.found opened).num o.inc in
      let num : k.num ≡ q.block.num = omega (arith, up, o.num) in
      let client : k.client ≡ q.block.client = o.mark.client ∙ sym client_is in
      let own : block_of k ≡ q.block = λ i. record { client = client i; inc = o.inc i; num = num i } in
      (num, opened_open w s core.state tape q.block k o.found opened own)

  can_open : (h : HandlerId) (o : OwnMark h) → StandsIn o.mark.site q.block
      → (IsHeldIn o.mark.site.core.state.marks q.block → (length o.mark.site.core.state.queues == MAX_QUEUES) ≡ false) → (o.mark.mark.num ≡ q.block.num)
      × CanOpen o.mark.site.core.state o.mark.mark
  can_open h o stands room =
      let k = o.mark.mark in
      ⊎_elim
      (λ (opened : has_block o.mark.site.opened q.block ≡ true). let there = is_open_there h o opened in (there.0, inl there.1))
      (λ (rest : IsHeldIn o.mark.site.core.state.marks q.block ⊎ IsPastIn o.mark.site.core.state.marks q.block).
      ⊎_elim
      (λ (x : IsHeldIn o.mark.site.core.state.marks q.block).
      let both : Some x.mark ≡ Some k = sym x.found ∙ o.found in
      let one : x.mark ≡ k = cc in
      (subst (λ (y : Mark). y.num ≡ q.block.num) one x.num, inr (subst (λ (y : Mark). y.stage ≡ AtHeld) one x.stage, room x)))
      (λ (x : IsPastIn o.mark.site.core.state.marks q.block).
      let both : Some x.mark ≡ Some k = sym x.found ∙ o.found in
      let one : x.mark ≡ k = cc in
      let newer : q.block.inc < k.inc = subst (λ (y : Mark). q.block.inc < y.inc) one x.newer in
      absurd (omega (arith, newer, o.inc)))
      rest) stands

  pub open_useful : q.stage ≡ Opening → (h : HandlerId) → has q.left h ≡ true
      → ((s : Site) → site_of h w ≡ Some s → IsHeldIn s.core.state.marks q.block → (length s.core.state.queues == MAX_QUEUES) ≡ false)
      → Helps w (next.Ask (id_of p) h)
  open_useful stage h left room =
      let fits = block_fits w r e p at q held in
      let named = fits.reserves.within h left in
      let o = beside h named in
      let m = o.mark in
      let s = m.site in
      let n = number_of s in
      let a : StandsAt w h q.block = (subst (StageStands w q) stage (e.background.standing.parties (id_of p) p at q held).stage) h named in
      let both : Some a.site ≡ Some s = sym a.found ∙ m.found in
      let one : a.site ≡ s = cc in
      let can = can_open h o (subst (λ (x : Site). StandsIn x q.block) one a.stands) (room s m.found) in
      let left_here : has q.left n ≡ true = ap (has q.left) m.number ∙ left in
      subst (λ j. Helps w (next.Ask (id_of p) j)) m.number
      (asks_useful w r p s (Open n q.block) (Opened n q.block) at (own_site w h s m.found)
      (due_reserved p.client n q (Open n q.block) (welcome w r e p at q held n) held (opening_owes q n stage left_here))
      refl refl (open_heard s.core.state q.block m.mark o.found o.inc can.0 can.1)
      (can_open_test s.core.state q.block m.mark o.found can.0 can.1) refl client_is
      (stepped p.client (after_opened q n), OpenedNote n) (opened_heard p.client q n held stage left_here)
      (stepped_id p.client (after_opened q n)) (stepped_less p.client q (after_opened q n) held (opened_less q n stage left_here)))
