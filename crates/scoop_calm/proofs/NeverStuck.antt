-- Events lead from every reached world to a calm one. No private queue stays forever. Of the clients that lock, one gets
-- its lock. If no client locks and no private queue is left, the world is calm.
use Rattle.scoop_calm.proofs.Names.{◌≡◌, ◌⊎◌, inl, inr, ◌==◌, ◌&&◌, not, Bool, true, false, true≢false, List, [], ◌∷◌, length, Option, Some, None, refl, sym}
use Rattle.scoop_calm.proofs.Names.{ap, ◌∙◌, subst, ⊎_elim, list_any, AllByRecursion, or_right, MAX_QUEUES, Block, same_block, PrivateQueue, takes_more}
use Rattle.scoop_calm.proofs.Names.{queue_of, has_queue, front, IsQueue, IsCore, is_open, block_of, mark_of, HasMark, is_holder, is_unfinished, mark_of-client}
use Rattle.scoop_calm.proofs.Names.{Locking, ReservationState, World, Site, Party, number_of, id_of, has_block, IsReached, by_test, same_block_is}
use Rattle.scoop_calm.proofs.Names.{same_block_itself, IsHeldIn, SiteFits, NoOpen, StageOpened, left_has, SiteTaped, block-found, Member, ℕ, zero, suc, ◌+◌}
use Rattle.scoop_calm.proofs.Names.{◌<◌, ◌≤◌, ◌||◌, nat_lt, arith, same_Some, if◌then◌else◌, is_none, option_map_or, nat_tests, HandlerId, Lock, Locked, Unlock}
use Rattle.scoop_calm.proofs.Names.{Mark, MarkStage, AtHeld, AtOpen, AtShut, Granted, Known, is_held, fresh_mark, HandlerState, HoldsIfHeld, HolderIsUnderWay}
use Rattle.scoop_calm.proofs.Names.{is_new, hear_lock, moved, All-mark_of, GivingUp, has, without, is_empty, is_lowest, LockedNote, ClientState, heard}
use Rattle.scoop_calm.proofs.Names.{hear_step, stepped, is_site, site_of, party_of, newest_block, number_found, IsNamed, all_found, own_site, IsOpenedAtAll}
use Rattle.scoop_calm.proofs.Names.{IsGivenUp, Shows, stage_work, total, Ok, Event, Do, Tick, Take, Begin, Finish, DoEnd as End, WorldNote, step, Run}
use Rattle.scoop_calm.proofs.Names.{run_after, Leads, Settles, stays, begins, finishes, next, ◌++◌, Greeting, phase_of_block, events_of, IsIdle, IsFree, Calm}
use Rattle.scoop_calm.proofs.Moves.{HasRunOut, IsSettled, Useful, party_found, Helps, useful, Less, by_what_is_left, sites_run_out}
use Rattle.scoop_calm.proofs.Lists.{each_or, all_member, found_in, Filled, nothing_in, first_in, filled, less_without, lowest_has, lowest_of}
use Rattle.scoop_calm.proofs.Attending.{Goes, AskedAt}
use Rattle.scoop_calm.proofs.Talk.{at_work, Replies, asks_useful, heard_of, stepped_id, stepped_less, due_reserved, block_fits, welcome, own_windows}
use Rattle.scoop_calm.proofs.Talk.{newer_clear}
use Rattle.scoop_calm.proofs.Logs.{IsIdleIn}
use Rattle.scoop_calm.proofs.Blocks.{Before, left_before, next_before, First, first_or, opened_queue, order_of, first_empty, any_member, passing, queue_there}
use Rattle.scoop_calm.proofs.Blocks.{queue_found, must_be_open, owner, no_open_mark, is_open_at, by_stage, Owner, settled_or}
use Rattle.scoop_calm.proofs.Everything.{AllFacts, everything}
use Rattle.scoop_reserve.specs.Due as owed
use Rattle.scoop_reserve.specs.Hearing as reservation
use Rattle.scoop_calm.specs.declared.next.Next.TheVariants as following
use Rattle.scoop_calm.proofs.Clients.{IsSettingOut, locks}
use Rattle.scoop_calm.proofs.Marks.{MarkFits, SiteMarked}
use Rattle.scoop_calm.proofs.Opening.{OwnMark, beside, client_is}
use Rattle.scoop_model.specs.declared.note.WorldNote.TheVariants as note
use Rattle.scoop_calm.specs.Settling.{ends, asks}

-- -------- No private queue stays forever: the client of the earliest block that has one gets on. Take the first block of the
-- common list among those with a queue. Nothing can run, and no other queue stands before its own, so its queue is
-- empty and takes more wherever it stands. No other queue fills the room where the block still has to open. So its
-- client is at this block, and has a useful move at every stage. If there are no queues, the same holds of each block
-- past locking.

module _ (w : World) (r : IsReached w) (e : AllFacts w r) (ran : AllByRecursion HasRunOut w.sites) (settled : AllByRecursion IsSettled w.parties) where
  -- the block has a private queue somewhere
  abbrev waits : Block → Bool
  waits b = list_any (λ (s : Site). has_queue b s.core.state.queues) w.sites

  queue_waits : (s : Site) → Member s w.sites → (x : PrivateQueue) → Member x s.core.state.queues → waits x.block ≡ true
  queue_waits s m x mx = any_member (λ (y : Site). has_queue x.block y.core.state.queues) w.sites s m (queue_there x.block s.core.state.queues x mx refl)

  queue_joint : (s : Site) → Member s w.sites → (x : PrivateQueue) → Member x s.core.state.queues → has_block w.joint x.block ≡ true
  queue_joint s m x mx =
      let tape = all_member (SiteTaped w) w.sites s e.background.taped m in
      let fits = all_member (SiteFits w.joint) w.sites s e.background.ordered.sites m in
      left_has fits.left x.block (opened_queue s.core.state.queues s.opened tape.slots tape.tape.queues tape.tape.opened x mx)

  -- ---- the earliest block

  module _ (f : First waits w.joint) where
    abbrev b : Block
    b = f.block

    -- no queue comes before it
    first_idle : (s : Site) → Member s w.sites → IsIdleIn s.core.state.queues b
    first_idle s m x mx own = at s.core.state.queues refl
      where
        at : (qs : List PrivateQueue) → s.core.state.queues ≡ qs → x.entries ≡ []
        at [] is = absurd (subst (Member x) is mx)
        at (y ∷ ys) is =
            ⊎_elim
            (λ (same : y ≡ x). subst (λ (z : PrivateQueue). z.entries ≡ []) same
            (first_empty y ys (ap front (sym is) ∙ (all_member HasRunOut w.sites s ran m).none)))
            (λ (later : Member x ys).
            let tape = all_member (SiteTaped w) w.sites s e.background.taped m in
            let fits = all_member (SiteFits w.joint) w.sites s e.background.ordered.sites m in
            let order : Before y.block x.block s.opened = order_of s.core.state.queues s.opened tape.slots tape.tape.queues tape.tape.opened y ys is x later in
            let before : Before y.block b w.joint = subst (λ z. Before y.block z w.joint) own (left_before fits.left y.block x.block order) in
            absurd (true≢false (sym (queue_waits s m y (subst (Member y) (sym is) (inl refl))) ∙ f.none_before y.block before)))
            (subst (Member x) is mx)

    -- where it is held, no queue is in its way
    first_room : has_block w.joint b ≡ true → (s : Site) → Member s w.sites → IsHeldIn s.core.state.marks b → (length s.core.state.queues == MAX_QUEUES) ≡ false
    first_room joined s m held = at s.core.state.queues refl
      where
        at : (qs : List PrivateQueue) → s.core.state.queues ≡ qs → (length s.core.state.queues == MAX_QUEUES) ≡ false
        at [] is = ap (λ (qs : List PrivateQueue). length qs == MAX_QUEUES) is
        at (y ∷ ys) is =
            let tape = all_member (SiteTaped w) w.sites s e.background.taped m in
            let fits = all_member (SiteFits w.joint) w.sites s e.background.ordered.sites m in
            let my : Member y s.core.state.queues = subst (Member y) (sym is) (inl refl) in
            let opened = opened_queue s.core.state.queues s.opened tape.slots tape.tape.queues tape.tape.opened y my in
            let before = next_before s.opened w.joint y.block b (fits.next b held joined) opened in
            absurd (true≢false (sym (queue_waits s m y my) ∙ f.none_before y.block before))

    -- its client is at it, and gets on
    first_useful : Useful w
    first_useful =
        let there = passing (λ (s : Site). has_queue b s.core.state.queues) w.sites f.passes in
        let s = there.item in
        let m = there.in_list in
        let x = queue_found b s.core.state.queues (queue_of b s.core.state.queues) refl there.passes in
        let mx : Member x.0 s.core.state.queues = found_in _ s.core.state.queues x.0 x.1 in
        let is : x.0.block ≡ b = block-found b x.0 s.core.state.queues x.1 in
        let core = all_member (λ (y : Site). IsCore y.core) w.sites s e.background.sound.sites m in
        let sound = all_member IsQueue s.core.state.queues x.0 core.state.queues.each mx in
        let more : takes_more x.0.state ≡ true = must_be_open x.0 sound (first_idle s m x.0 mx is) in
        let marked : HasMark s.core.state.marks x.0 = all_member (HasMark s.core.state.marks) s.core.state.queues x.0 core.state.marked mx in
        let k = marked.mark in
        let client : k.client ≡ x.0.block.client = mark_of-client x.0.block.client s.core.state.marks k marked.found in
        let found : mark_of k.client s.core.state.marks ≡ Some k = ap (λ c. mark_of c s.core.state.marks) client ∙ marked.found in
        let own : block_of k ≡ x.0.block =
        by_test (λ _. block_of k ≡ x.0.block) (same_block (block_of k) x.0.block)
        (λ same. same_block_is (block_of k) x.0.block same)
        (λ other. absurd (true≢false (sym more ∙ marked.fits.older
        (λ same. true≢false (sym (ap (λ z. same_block z x.0.block) same ∙ same_block_itself x.0.block) ∙ other))))) in
        let going : (is_open k.stage && not k.ended) ≡ true = (marked.fits.newest own).unfinished more in
        let unfinished : is_unfinished s.core.state k ≡ true = or_right (is_holder s.core.state.holder (block_of k)) (is_open k.stage && not k.ended) going in
        let o = owner w r e settled s m k found in
        let a : Goes o.party.client (number_of s) (block_of o.mark.mark) =
        at_work w r e o.party o.at (number_of s) o.mark ((λ i. is_unfinished (o.site i).core.state (o.own i)) ∙ unfinished) in
        let block : a.reservation.block ≡ b = a.block ∙ ap block_of o.own ∙ own ∙ is in
        let joined : has_block w.joint b ≡ true = ap (has_block w.joint) (sym is) ∙ queue_joint s m x.0 mx in
        ⊎_elim
        (λ (locking : a.reservation.stage ≡ Locking).
        let never : NoOpen w a.reservation.block = subst (StageOpened w a.reservation) locking
        (e.background.openings.parties (id_of o.party) o.party o.at a.reservation a.held).stage in
        let own_never : NoOpen w (block_of k) = subst (NoOpen w) (block ∙ sym is ∙ sym own) never in
        absurd (no_open_mark w r e s m k found own_never (is_open_at w r e k.stage (not k.ended) going)))
        (λ (u : Useful w). u)
        (by_stage w r e settled o.party o.in_world o.at a.reservation a.held
        (λ t mt h. first_room joined t mt (subst (IsHeldIn t.core.state.marks) block h))
        (λ t mt y my same. first_idle t mt y my (same ∙ block))
        a.reservation.stage refl)

  -- ---- all queues

  pub queues_or : AllByRecursion (λ (s : Site). s.core.state.queues ≡ []) w.sites ⊎ Useful w
  queues_or =
      ⊎_elim
      (λ (nowhere : (a : Block) → has_block w.joint a ≡ true → waits a ≡ false). each_or (λ (s : Site). s.core.state.queues ≡ []) (Useful w) w.sites
      (λ s m. inl (gone nowhere s m s.core.state.queues refl)))
      (λ (f : First waits w.joint). inr (first_useful f))
      (first_or waits w.joint e.apart)
    where
      gone : ((a : Block) → has_block w.joint a ≡ true → waits a ≡ false) → (s : Site) → Member s w.sites → (qs : List PrivateQueue) → s.core.state.queues ≡ qs
          → s.core.state.queues ≡ []
      gone nowhere s m [] is = is
      gone nowhere s m (y ∷ ys) is =
          let my : Member y s.core.state.queues = subst (Member y) (sym is) (inl refl) in
          absurd (true≢false (sym (queue_waits s m y my) ∙ nowhere y.block (queue_joint s m y my)))

-- ---- and then all blocks that are past locking

pub data IsLockingOrNone (p : Party) : Type 0 where
  has_none : p.client.reservation ≡ None → IsLockingOrNone p
  is_locking : (q : ReservationState) → p.client.reservation ≡ Some q → q.stage ≡ Locking → IsLockingOrNone p

module _ (w : World) (r : IsReached w) (e : AllFacts w r) (settled : AllByRecursion IsSettled w.parties)
    (empty : AllByRecursion (λ (s : Site). s.core.state.queues ≡ []) w.sites) where
  locking_or : (p : Party) → Member p w.parties → (o : Option ReservationState) → p.client.reservation ≡ o → IsLockingOrNone p ⊎ Useful w
  locking_or p m None held = inl (has_none held)
  locking_or p m (Some q) held =
      ⊎_elim
      (λ (stage : q.stage ≡ Locking). inl (is_locking q held stage))
      (λ (u : Useful w). inr u)
      (by_stage w r e settled p m (party_found w r p m) q held
      (λ s ms h. ap (λ (qs : List PrivateQueue). length qs == MAX_QUEUES) (all_member (λ (y : Site). y.core.state.queues ≡ []) w.sites s empty ms))
      (λ s ms x mx same. absurd (subst (Member x) (all_member (λ (y : Site). y.core.state.queues ≡ []) w.sites s empty ms) mx))
      q.stage refl)

  pub all_locking_or : AllByRecursion IsLockingOrNone w.parties ⊎ Useful w
  all_locking_or = each_or IsLockingOrNone (Useful w) w.parties (λ p m. locking_or p m p.client.reservation refl)

-- -------- If every client is idle or locks, one of them gets the lock that it asks for. Each client that holds a lock asks for
-- a higher one than it holds.

-- ---- the handler

-- the lock is free, or the block holds it
abbrev pub CanLock : HandlerState → Block → Mark → Type 0
CanLock s b k = ((k.num < b.num) × (s.holder ≡ None) × (is_unfinished s k ≡ false)) ⊎ ((k.num ≡ b.num) × (k.stage ≡ AtHeld))

lock_heard : (s : HandlerState) (b : Block) (k : Mark) → mark_of b.client s.marks ≡ Some k → k.inc ≡ b.inc → k.num ≤ b.num → CanLock s b k
    → Replies s (Lock s.number b) (Locked s.number b)
lock_heard s b k found inc num (inl free) = record {
  state = moved s (Some b) (fresh_mark b AtHeld);
  told = Granted;
  is = heard_of s b k (hear_lock s b) found inc num ∙ grind (arith, nat_tests, free.0, free.1, free.2);
}
lock_heard s b k found inc num (inr own) = record {
  state = s;
  told = Known;
  is = heard_of s b k (hear_lock s b) found inc num ∙ grind (arith, nat_tests, own.0, own.1, ap is_held own.1);
}

-- ---- the client

abbrev after_locked : ReservationState → HandlerId → ReservationState
after_locked r h = reservation.one_locked r (without h r.left)

locking_owes : (r : ReservationState) (h : HandlerId) → r.stage ≡ Locking → is_lowest h r.left ≡ true → owed.due r h ≡ Some (Lock h r.block)
locking_owes r h at is = ap (owed.due_in r h) at ∙ ap (λ t. if t then Some (Lock h r.block) else None) is

locked_heard : (c : ClientState) (r : ReservationState) (h : HandlerId) → c.reservation ≡ Some r → r.stage ≡ Locking → is_lowest h r.left ≡ true
    → heard c (Locked h r.block) ≡ (stepped c (after_locked r h), LockedNote h)
locked_heard c r h held at is = ap (hear_step c (Locked h r.block)) held ∙ grind (arith, ap (reservation.hear_locked r h) at, is, same_block_itself r.block)

locked_less : (r : ReservationState) (h : HandlerId) → r.stage ≡ Locking → is_lowest h r.left ≡ true
    → stage_work (after_locked r h) (after_locked r h).stage < stage_work r r.stage
locked_less r h at low = grind (arith, less_without h r.left (lowest_has h r.left low), ap (stage_work r) at)

number_in : (s : Site) (ss : List Site) → Member s ss → (number_of s).0 ≤ total (λ (x : Site). (number_of x).0) ss
number_in s [] m = absurd m
number_in s (x ∷ xs) (inl e) = omega (arith, ap (λ (y : Site). (number_of y).0) e)
number_in s (x ∷ xs) (inr n) = omega (arith, number_in s xs n)

by_holder : (w : World) {o : Option Block} → (o ≡ None → Useful w) → ((b : Block) → o ≡ Some b → Useful w) → (x : Option Block) → o ≡ x → Useful w
by_holder w free taken None is = free is
by_holder w free taken (Some b) is = taken b is

module _ (w : World) (r : IsReached w) (e : AllFacts w r) where
  lock_useful : (p : Party) (at : party_of (id_of p) w ≡ Some p) (q : ReservationState) (held : p.client.reservation ≡ Some q) → q.stage ≡ Locking →
      (h : HandlerId) → is_lowest h q.left ≡ true → (o : OwnMark w r e p at q held h) → CanLock o.mark.site.core.state q.block o.mark.mark →
      (is_none o.mark.site.core.state.holder || is_holder o.mark.site.core.state.holder q.block) ≡ true → Helps w (following.Ask (id_of p) h)
  lock_useful p at q held stage h low o can test =
      let s = o.mark.site in
      let n = number_of s in
      let low_here : is_lowest n q.left ≡ true = ap (λ j. is_lowest j q.left) o.mark.number ∙ low in
      subst (λ j. Helps w (following.Ask (id_of p) j)) o.mark.number
      (asks_useful w r p s (Lock n q.block) (Locked n q.block) at (own_site w h s o.mark.found)
      (due_reserved p.client n q (Lock n q.block) (welcome w r e p at q held n) held (locking_owes q n stage low_here))
      refl refl (lock_heard s.core.state q.block o.mark.mark o.found o.inc o.num can) test refl (client_is w r e p at q held)
      (stepped p.client (after_locked q n), LockedNote n) (locked_heard p.client q n held stage low_here)
      (stepped_id p.client (after_locked q n)) (stepped_less p.client q (after_locked q n) held (locked_less q n stage low_here)))

  -- ---- a mark at a block whose client locks is held

  module _ (p : Party) (at : party_of (id_of p) w ≡ Some p) (q : ReservationState) (held : p.client.reservation ≡ Some q) (stage : q.stage ≡ Locking)
      (h : HandlerId) (named : has q.handlers h ≡ true) where
    never : NoOpen w q.block
    never = subst (StageOpened w q) stage (e.background.openings.parties (id_of p) p at q held).stage

    abbrev own : OwnMark w r e p at q held h
    own = beside w r e p at q held h named

    abbrev s : Site
    s = own.mark.site

    abbrev k : Mark
    k = own.mark.mark

    in_world : Member s w.sites
    in_world = found_in _ w.sites s own.mark.found

    k_found : mark_of k.client s.core.state.marks ≡ Some k
    k_found = ap (λ c. mark_of c s.core.state.marks) (own.mark.client ∙ sym (client_is w r e p at q held)) ∙ own.found

    own_is : k.num ≡ q.block.num → block_of k ≡ q.block
    own_is num =
        let client = own.mark.client ∙ sym (client_is w r e p at q held) in λ i. record { client = client i; inc = own.inc i; num = num i }

    -- it isn't open
    not_open : k.num ≡ q.block.num → k.stage ≡ AtOpen → ⊥
    not_open num = no_open_mark w r e s in_world k k_found (subst (NoOpen w) (sym (own_is num)) never)

    -- nor was it opened anywhere
    opened_nowhere : (x : HandlerId) → has_block (option_map_or (λ (y : Site). y.opened) (site_of x w) []) q.block ≡ true → ⊥
    opened_nowhere x opened = from (site_of x w) refl opened
      where
        from : (o : Option Site) → site_of x w ≡ o → has_block (option_map_or (λ (y : Site). y.opened) o []) q.block ≡ true → ⊥
        from None is f = true≢false (sym f)
        from (Some y) is f =
            let fits = all_found (SiteFits w.joint) (is_site x) w.sites y e.background.ordered.sites is in
            true≢false (sym (e.background.standing.joint q.block (left_has fits.left q.block f)) ∙ never)

    -- nor is it shut, since no Unlock was sent
    not_shut : k.num ≡ q.block.num → k.stage ≡ AtShut → ⊥
    not_shut num shut =
        let f = All-mark_of (MarkFits w (number_of s) s.ran) k.client s.core.state.marks k
        (all_member (SiteMarked w) w.sites s e.background.marked.sites in_world) k_found in
        let is : q.block ≡ newest_block p.client = (own_windows w r e p at q held).block in
        let begun = (block_fits w r e p at q held).begun in
        ⊎_elim
        (λ (zero_num : k.num ≡ 0). omega (arith, zero_num, num, ap (λ (y : Block). y.num) is, begun))
        (λ (sent : Member (Unlock (number_of s) (block_of k)) w.sent).
        let shows = all_member (Shows w) w.sent (Unlock (number_of s) (block_of k)) e.background.openings.messages sent in
        let n : IsNamed w (number_of s) (block_of k) = shows.0 in
        ⊎_elim
        (λ (all : IsOpenedAtAll w (block_of k)).
        let same : n.handlers ≡ all.handlers = same_Some n.handlers all.handlers (sym n.set ∙ all.set) in
        let opened = all.opened (number_of s) (ap (λ hs. has hs (number_of s)) (sym same) ∙ n.member) in
        opened_nowhere (number_of s) (ap (has_block (option_map_or (λ (y : Site). y.opened) (site_of (number_of s) w) [])) (sym (own_is num)) ∙ opened))
        (λ (g : IsGivenUp w (block_of k)).
        let giving : q.stage ≡ GivingUp = g.left (id_of p) p at q held (sym (own_is num)) in
        let both : Locking ≡ GivingUp = sym stage ∙ giving in
        cc)
        shows.1)
        (f.unlocked shut)

    must_be_held : k.num ≡ q.block.num → k.stage ≡ AtHeld
    must_be_held num = by_stage k.stage refl
      where
        by_stage : (t : MarkStage) → k.stage ≡ t → k.stage ≡ AtHeld
        by_stage AtHeld is = is
        by_stage AtOpen is = absurd (not_open num is)
        by_stage AtShut is = absurd (not_shut num is)

    -- a free lock can be got
    pub if_free : s.core.state.holder ≡ None → is_lowest h q.left ≡ true → Helps w (following.Ask (id_of p) h)
    if_free none_holds low =
        by_test (λ _. Helps w (following.Ask (id_of p) h)) (nat_lt k.num q.block.num)
        (λ lt.
        let newer : k.num < q.block.num = grind (arith, nat_tests) in
        let new : is_new q.block k ≡ true = lt in
        lock_useful p at q held stage h low own (inl (newer, none_holds, newer_clear w r e p at q held h own.mark new))
        (ap (λ y. is_none y || is_holder y q.block) none_holds))
        (λ ge.
        let le = own.num in
        let num : k.num ≡ q.block.num = grind (arith, nat_tests) in
        lock_useful p at q held stage h low own (inr (num, must_be_held num)) (ap (λ y. is_none y || is_holder y q.block) none_holds))

    -- a mark that is held is at the holder
    held_by : k.num ≡ q.block.num → s.core.state.holder ≡ Some q.block
    held_by num =
        let core = all_member (λ (y : Site). IsCore y.core) w.sites s e.background.sound.sites in_world in
        let fit = All-mark_of (HoldsIfHeld s.core.state.holder) k.client s.core.state.marks k core.state.held k_found in
        fit.holds (ap is_held (must_be_held num)) ∙ ap Some (own_is num)

    -- the handler repeats the reply for a lock that the block holds
    pub if_own : k.num ≡ q.block.num → is_lowest h q.left ≡ true → Helps w (following.Ask (id_of p) h)
    if_own num low = lock_useful p at q held stage h low own (inr (num, must_be_held num))
        (ap (λ y. is_none y || is_holder y q.block) (held_by num) ∙ same_block_itself q.block)

module _ (w : World) (r : IsReached w) (e : AllFacts w r) (settled : AllByRecursion IsSettled w.parties) where
  -- ---- from one client to the next

  module _ (all : AllByRecursion IsLockingOrNone w.parties) where
    abbrev bound : ℕ
    bound = total (λ (s : Site). (number_of s).0) w.sites

    -- where the next client's lock is asked for at a higher handler
    abbrev Next : ℕ → Type 0
    Next n = (p : Party) (m : Member p w.parties) (at : party_of (id_of p) w ≡ Some p) (q : ReservationState) (held : p.client.reservation ≡ Some q)
        → q.stage ≡ Locking → (h : HandlerId) → is_lowest h q.left ≡ true → bound < h.0 + n → Useful w

    higher : (n : ℕ) → Next n → (h : HandlerId) → bound < h.0 + suc n → (p : Party) (m : Member p w.parties) (at : party_of (id_of p) w ≡ Some p)
        (q : ReservationState) (held : p.client.reservation ≡ Some q) → q.stage ≡ Locking → has q.handlers h ≡ true → has q.left h ≡ false →
        (hs : List HandlerId) → q.left ≡ hs → Filled hs → Useful w
    higher n next h room p m at q held stage named gone _ is nothing_in =
        absurd (true≢false (sym (ap is_empty is) ∙ (block_fits w r e p at q held).reserves.stays (subst IsSettingOut (sym stage) locks)))
    higher n next h room p m at q held stage named gone _ is (first_in x xs) =
        let l = lowest_of x xs in
        let low : is_lowest l.handler q.left ≡ true = ap (is_lowest l.handler) is ∙ l.is in
        let up = (block_fits w r e p at q held).reserves.order stage h l.handler named gone (lowest_has l.handler q.left low) in
        next p m at q held stage l.handler low (omega (arith, up, room))

    by_state : (n : ℕ) → Next n → (s : Site) (k : Mark) → bound < (number_of s).0 + suc n
        → (o : Owner w r e settled s k) (a : Goes o.party.client (number_of s) (block_of o.mark.mark)) → IsLockingOrNone o.party → Useful w
    by_state n next s k room o a (has_none none_held) = absurd (let f : None ≡ Some a.reservation = sym none_held ∙ a.held in cc)
    by_state n next s k room o a (is_locking q held stage) =
        let one : a.reservation ≡ q = same_Some a.reservation q (sym a.held ∙ held) in
        let block : q.block ≡ block_of o.mark.mark = ap (λ (y : ReservationState). y.block) (sym one) ∙ a.block in
        let asked : AskedAt q (number_of s) Locking = subst (AskedAt q (number_of s)) stage
        (subst (λ (y : ReservationState). AskedAt y (number_of s) y.stage) one a.asked) in
        let x = beside w r e o.party o.at q held (number_of s) asked.0 in
        let same_site : x.mark.site ≡ o.mark.site = same_Some x.mark.site o.mark.site (sym x.mark.found ∙ o.mark.found) in
        let same_mark : x.mark.mark ≡ o.mark.mark = same_Some x.mark.mark o.mark.mark
        (sym x.mark.there ∙ ap (λ (y : Site). mark_of (id_of o.party) y.core.state.marks) same_site ∙ o.mark.there) in
        let num : x.mark.mark.num ≡ q.block.num = ap (λ (y : Mark). y.num) same_mark ∙ sym (ap (λ (y : Block). y.num) block) in
        ⊎_elim
        (λ (gone : has q.left (number_of s) ≡ false). higher n next (number_of s) room o.party o.in_world o.at q held stage asked.0 gone q.left refl
        (filled q.left))
        (λ (low : is_lowest (number_of s) q.left ≡ true). useful w (following.Ask (id_of o.party) (number_of s))
        (if_own w r e o.party o.at q held stage (number_of s) asked.0 num low))
        asked.1

    holder_useful : (n : ℕ) → Next n → (h : HandlerId) (s : Site) (ms : Member s w.sites) → number_of s ≡ h → bound < h.0 + suc n → (b : Block)
        → s.core.state.holder ≡ Some b → Useful w
    holder_useful n next h s ms number room b holds =
        let core = all_member (λ (y : Site). IsCore y.core) w.sites s e.background.sound.sites ms in
        let way : HolderIsUnderWay (Some b) s.core.state.marks = subst (λ o. HolderIsUnderWay o s.core.state.marks) holds core.state.holder in
        let k = way.mark in
        let client : k.client ≡ b.client = mark_of-client b.client s.core.state.marks k way.found in
        let found : mark_of k.client s.core.state.marks ≡ Some k = ap (λ c. mark_of c s.core.state.marks) client ∙ way.found in
        let is : is_holder s.core.state.holder (block_of k) ≡ true = ap (λ o. is_holder o (block_of k)) holds
        ∙ ap (λ y. same_block y (block_of k)) (sym way.newest) ∙ same_block_itself (block_of k) in
        let unfinished : is_unfinished s.core.state k ≡ true = ap (λ t. t || (is_open k.stage && not k.ended)) is in
        let o = owner w r e settled s ms k found in
        let a : Goes o.party.client (number_of s) (block_of o.mark.mark) =
        at_work w r e o.party o.at (number_of s) o.mark ((λ i. is_unfinished (o.site i).core.state (o.own i)) ∙ unfinished) in
        by_state n next s k (omega (arith, room, ap (λ (y : HandlerId). y.0) number)) o a (all_member IsLockingOrNone w.parties o.party all o.in_world)

    climbs : (n : ℕ) (p : Party) (m : Member p w.parties) (at : party_of (id_of p) w ≡ Some p) (q : ReservationState) (held : p.client.reservation ≡ Some q)
        → q.stage ≡ Locking → (h : HandlerId) → is_lowest h q.left ≡ true → bound < h.0 + n → Useful w
    climbs zero p m at q held stage h low room =
        let named = (block_fits w r e p at q held).reserves.within h (lowest_has h q.left low) in
        let o = beside w r e p at q held h named in
        absurd (omega (arith, number_in o.mark.site w.sites (found_in _ w.sites o.mark.site o.mark.found), ap (λ (y : HandlerId). y.0) o.mark.number, room))
    climbs (suc n) p m at q held stage h low room =
        let named = (block_fits w r e p at q held).reserves.within h (lowest_has h q.left low) in
        let s = (beside w r e p at q held h named).mark.site in
        let found = (beside w r e p at q held h named).mark.found in
        by_holder w (λ none_holds. useful w (following.Ask (id_of p) h) (if_free w r e p at q held stage h named none_holds low))
        (λ b holds. holder_useful n (climbs n) h s (found_in _ w.sites s found) (number_found h w s found) room b holds)
        s.core.state.holder refl

  pub locking_useful : AllByRecursion IsLockingOrNone w.parties → (p : Party) (m : Member p w.parties) (at : party_of (id_of p) w ≡ Some p)
      (q : ReservationState) (held : p.client.reservation ≡ Some q) → q.stage ≡ Locking → (hs : List HandlerId) → q.left ≡ hs → Filled hs → Useful w
  locking_useful all p m at q held stage _ is nothing_in = absurd (true≢false
      (sym (ap is_empty is) ∙ (block_fits w r e p at q held).reserves.stays (subst IsSettingOut (sym stage) locks)))
  locking_useful all p m at q held stage _ is (first_in x xs) =
      let l = lowest_of x xs in
      climbs all (suc (total (λ (s : Site). (number_of s).0) w.sites)) p m at q held stage l.handler (ap (is_lowest l.handler) is ∙ l.is) (omega arith)

-- -------- The events by which a world settles, as one list of events none of which is refused.

one : (n : ℕ) (w v u : World) (es : List Event) (x : Event) (t : WorldNote) → step w x ≡ Ok (v, t) → run_after (n + 1) v es ≡ (u, Ok (n + 1 + length es))
    → run_after n w (x ∷ es) ≡ (u, Ok (n + length (x ∷ es)))
one n w v u es x t e rest =
    let made : ℕ → Run = λ k. (u, Ok k) in
    let more : n + 1 + length es ≡ n + length (x ∷ es) = omega arith in
    ap (next n w (λ y. run_after (n + 1) y es)) e ∙ rest ∙ ap made more

pub leads_from : (n : ℕ) (w u : World) (es : List Event) → Settles w es u → run_after n w es ≡ (u, Ok (n + length es))
leads_from n _ _ _ (stays w) = let made : ℕ → Run = λ k. (w, Ok k) in let none : n ≡ n + length {A = Event} [] = omega arith in ap made none
leads_from n _ _ _ (begins w v u es h b k e rest) = one n w v u es (Begin h) (note.Began b k) e (leads_from (n + 1) v u es rest)
leads_from n _ _ _ (finishes w v u es h r e rest) = one n w v u es (Finish h) (note.Ran r) e (leads_from (n + 1) v u es rest)
leads_from n _ _ _ (ends w v u es c e rest) = one n w v u es (Do c End) note.Done e (leads_from (n + 1) v u es rest)
leads_from n _ _ _ (asks w x y v u es c h i j told heard e f g rest) =
    one n w x u (Take i ∷ Take j ∷ es) (Tick c h) (note.Sent i) e
    (one (n + 1) x y u (Take j ∷ es) (Take i) (note.Handler told (Some j)) f
    (one (n + 1 + 1) y v u es (Take j) (note.Client heard) g (leads_from (n + 1 + 1 + 1) v u es rest)))

pub settles_leads : (w u : World) (es : List Event) → Settles w es u → Leads w es u
settles_leads w u es s =
    let made : ℕ → Run = λ k. (u, Ok k) in
    let none : 0 + length es ≡ length es = omega arith in
    leads_from 0 w u es s ∙ ap made none

-- -------- Events lead from every reached world to a calm one.

-- the client has no block
pub record HasNone (p : Party) : Type 0 where
  pub none : p.client.reservation ≡ None

module _ (w : World) (r : IsReached w) (e : AllFacts w r) (ran : AllByRecursion HasRunOut w.sites)
    (settled : AllByRecursion IsSettled w.parties) (empty : AllByRecursion (λ (s : Site). s.core.state.queues ≡ []) w.sites) where
  idle_or : AllByRecursion IsLockingOrNone w.parties → (p : Party) → Member p w.parties → IsLockingOrNone p → HasNone p ⊎ Useful w
  idle_or all p m (has_none is) = inl (record { none = is })
  idle_or all p m (is_locking q held stage) = inr (locking_useful w r e settled all p m (party_found w r p m) q held stage q.left refl (filled q.left))

  is_idle : (p : Party) → IsSettled p → HasNone p → IsIdle p
  is_idle p s n = record { idle = (λ i. if is_empty (s.welcome.left i) then phase_of_block p.client.windows (n.none i) else Greeting) }

  -- a holder's client would be at its block
  is_free : AllByRecursion HasNone w.parties → (s : Site) → Member s w.sites → IsFree s
  is_free none s m = record {
    holder = by_holder s.core.state.holder refl;
    queues = all_member (λ (x : Site). x.core.state.queues ≡ []) w.sites s empty m;
    here = (all_member HasRunOut w.sites s ran m).here;
  }
    where
      by_holder : (o : Option Block) → s.core.state.holder ≡ o → s.core.state.holder ≡ None
      by_holder None is = is
      by_holder (Some b) holds =
          let core = all_member (λ (y : Site). IsCore y.core) w.sites s e.background.sound.sites m in
          let way : HolderIsUnderWay (Some b) s.core.state.marks = subst (λ o. HolderIsUnderWay o s.core.state.marks) holds core.state.holder in
          let k = way.mark in
          let client = mark_of-client b.client s.core.state.marks k way.found in
          let found : mark_of k.client s.core.state.marks ≡ Some k = ap (λ c. mark_of c s.core.state.marks) client ∙ way.found in
          let is : is_holder s.core.state.holder (block_of k) ≡ true = ap (λ o. is_holder o (block_of k)) holds
          ∙ ap (λ y. same_block y (block_of k)) (sym way.newest) ∙ same_block_itself (block_of k) in
          let unfinished : is_unfinished s.core.state k ≡ true = ap (λ t. t || (is_open k.stage && not k.ended)) is in
          let o = owner w r e settled s m k found in
          let a : Goes o.party.client (number_of s) (block_of o.mark.mark) =
          at_work w r e o.party o.at (number_of s) o.mark ((λ i. is_unfinished (o.site i).core.state (o.own i)) ∙ unfinished) in
          absurd (let f : None ≡ Some a.reservation = sym (all_member HasNone w.parties o.party none o.in_world).none ∙ a.held in cc)

all_map : {A : Type 0} (P : A → Type 0) (xs : List A) → ((x : A) → Member x xs → P x) → AllByRecursion P xs
all_map P [] f = tt
all_map P (x ∷ xs) f = (f x (inl refl), all_map P xs (λ y m. f y (inr m)))

either : (P Q R : Type 0) → P ⊎ Q → (P → R ⊎ Q) → R ⊎ Q
either P Q R x f = ⊎_elim (λ (p : P). f p) (λ (q : Q). inr q) x

pub calm_or : (w : World) → IsReached w → Calm w ⊎ Useful w
calm_or w r =
    let e = everything w r in
    either (AllByRecursion HasRunOut w.sites) (Useful w) (Calm w) (sites_run_out w r e.background.sound.sites) (λ ran.
    either (AllByRecursion IsSettled w.parties) (Useful w) (Calm w) (each_or IsSettled (Useful w) w.parties (settled_or w r e)) (λ settled.
    either (AllByRecursion (λ (s : Site). s.core.state.queues ≡ []) w.sites) (Useful w) (Calm w) (queues_or w r e ran settled) (λ empty.
    either (AllByRecursion IsLockingOrNone w.parties) (Useful w) (Calm w) (all_locking_or w r e settled empty) (λ locking.
    either (AllByRecursion HasNone w.parties) (Useful w) (Calm w)
    (each_or HasNone (Useful w) w.parties (λ p m. idle_or w r e ran settled empty locking p m (all_member IsLockingOrNone w.parties p locking m))) (λ none.
    inl (record {
      sites = all_map IsFree w.sites (is_free w r e ran settled empty none);
      parties = all_map IsIdle w.parties (λ p m. is_idle w r e ran settled empty p (all_member IsSettled w.parties p settled m)
          (all_member HasNone w.parties p none m));
    }))))))

-- events that lead to a calm world
record CanSettle (w : World) : Type 0 where
  pub events : List Event
  pub after : World
  pub settles : Settles w events after
  pub calm : Calm after

progress : (w : World) → IsReached w → ((u : World) → IsReached u → Less u w → CanSettle u) → CanSettle w
progress w r rest =
    ⊎_elim (λ (calm : Calm w). record { events = []; after = w; settles = stays w; calm = calm })
    (λ (u : Useful w).
    let c = rest u.helps.after u.helps.reached u.helps.less in
    record { events = events_of w u.next ++ c.events; after = c.after; settles = u.helps.goes c.events c.after c.settles; calm = c.calm })
    (calm_or w r)

pub never_stuck : (w : World) → IsReached w → (events : List Event) × (v : World) × Settles w events v × Leads w events v × Calm v
never_stuck w r = let c = by_what_is_left CanSettle progress w r in (c.events, c.after, c.settles, settles_leads w c.after c.events c.settles, c.calm)
