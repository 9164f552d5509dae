-- Progress of one client or one block. A client greets and gives locks back, and an opened block gets on. The earliest
-- block that has a private queue gets on. If no block has one, every block past locking gets on.
use Rattle.scoop_calm.proofs.Names.{◌≡◌, ◌⊎◌, inl, inr, List, [], map, Option, Some, None, refl, sym, ap, ◌∙◌, subst, ⊎_elim, HandlerId, Stage, Locking}
use Rattle.scoop_calm.proofs.Names.{Opening, Unlocking, GivingUp, has, ReservationState, World, Party, id_of, party_of, Placement, IsReached, Member, nat_tests}
use Rattle.scoop_calm.proofs.Names.{ℕ, ◌<◌, ◌==◌, ◌&&◌, ◌||◌, Bool, true, false, true≢false, nat_le, ◌∷◌, length, arith, if◌then◌else◌, find, not}
use Rattle.scoop_calm.proofs.Names.{AllByRecursion, list_all, option_map, MAX_UNACKNOWLEDGED, Entry, handler_decides, WindowState, is_ended, is_full}
use Rattle.scoop_calm.proofs.Names.{is_lowest_full, lowest_full, all_over, window_of, ClientState, Site, site_of, by_test, handlers_at, found_has}
use Rattle.scoop_calm.proofs.Names.{same_handler_itself, ◌++◌, or_right, Block, same_block, PrivateQueue, first_of, front, QueueState, has_block, IsSubsequence}
use Rattle.scoop_calm.proofs.Names.{nothing, left_out, AreApart, same_block_is, same_block_itself, left_has, Slot, slot_queue, queue_at, queues_of, blocks_of}
use Rattle.scoop_calm.proofs.Names.{◌≤◌, same_Some, is_some, list_any, option_map_or, MAX_QUEUES, ClientId, ends, Ended, Cut, takes_more, is_cut, is_queue_of}
use Rattle.scoop_calm.proofs.Names.{queue_of, has_queue, IsQueue, Mark, MarkStage, AtOpen, is_open, block_of, mark_of, All-mark_of, is_empty, is_given_up_in}
use Rattle.scoop_calm.proofs.Names.{number_of, inc_of, id_found, known_by, mark_known, IsHeldIn, SiteFits, IsMarkUpto, MarksUpto, NoOpen, IsMarkOpened, SiteOpened}
use Rattle.scoop_calm.proofs.Names.{PartyKnown}
use Rattle.scoop_calm.specs.declared.next.Next.TheVariants as next
use Rattle.scoop_calm.proofs.Moves.{IsWelcome, GaveBack, HasGivenBack, IsSettled, party_found, Useful, useful, site_found}
use Rattle.scoop_calm.proofs.Chosen.{Found}
use Rattle.scoop_calm.proofs.Lists.{Filled, nothing_in, first_in, filled, has_head, each_or, NoTwice, all_member, found_in}
use Rattle.scoop_calm.proofs.Everything.{AllFacts}
use Rattle.scoop_calm.proofs.Talk.{greet_useful, IsReleasing, unlocks, gives_back, unlock_useful, block_fits, own_windows, ending_useful, MarkAt, mark_at}
use Rattle.scoop_calm.proofs.Clients.{BlockFits, IsSettingOut, opens}
use Rattle.scoop_calm.proofs.Opening.{beside, open_useful}
use Rattle.scoop_calm.proofs.Logs.{IsIdleIn, log_useful}
use Rattle.scoop_model.specs.Safe.{taken}
use Rattle.scoop_queue.specs.declared.state.QueueState.TheVariants.{Open}
use Rattle.scoop_queue.specs.Queue.{is_ended as has_ended}
use Rattle.scoop_calm.proofs.Marks.{MarkFits, SiteMarked}

-- -------- A client greets handlers that haven't welcomed it, and gives back the locks that it has to give back.

module _ (w : World) (r : IsReached w) (e : AllFacts w r) where
  greets : (p : Party) → party_of (id_of p) w ≡ Some p → (hs : List HandlerId) → p.client.unwelcomed ≡ hs → Filled hs → IsWelcome p ⊎ Useful w
  greets p at _ is nothing_in = inl (record { left = is })
  greets p at _ is (first_in h hs) = inr (useful w (next.Ask (id_of p) h) (greet_useful w r e p at h (ap (λ ks. has ks h) is ∙ has_head h hs)))

  frees : (p : Party) → party_of (id_of p) w ≡ Some p → (q : ReservationState) → p.client.reservation ≡ Some q → IsReleasing q.stage → (hs : List HandlerId)
      → q.left ≡ hs → Filled hs → (q.left ≡ []) ⊎ Useful w
  frees p at q held stage _ is nothing_in = inl is
  frees p at q held stage _ is (first_in h hs) = inr (useful w (next.Ask (id_of p) h)
      (unlock_useful w r e p at q held stage h (ap (λ ks. has ks h) is ∙ has_head h hs)))

  back_or : (p : Party) → party_of (id_of p) w ≡ Some p → (q : ReservationState) → p.client.reservation ≡ Some q → (stage : Stage) → q.stage ≡ stage
      → GaveBack q stage ⊎ Useful w
  back_or p at q held Unlocking is = frees p at q held (subst IsReleasing (sym is) unlocks) q.left refl (filled q.left)
  back_or p at q held GivingUp is = frees p at q held (subst IsReleasing (sym is) gives_back) q.left refl (filled q.left)
  back_or p at q held stage is = inl tt

  releases : (p : Party) → party_of (id_of p) w ≡ Some p → (o : Option ReservationState) → p.client.reservation ≡ o → HasGivenBack o ⊎ Useful w
  releases p at None is = inl tt
  releases p at (Some q) is = back_or p at q is q.stage refl

  pub settled_or : (p : Party) → Member p w.parties → IsSettled p ⊎ Useful w
  settled_or p m =
      let at = party_found w r p m in
      ⊎_elim
      (λ (welcome : IsWelcome p).
      ⊎_elim (λ (back : HasGivenBack p.client.reservation). inl (record { welcome = welcome; back = back })) (λ (u : Useful w). inr u)
      (releases p at p.client.reservation refl))
      (λ (u : Useful w). inr u)
      (greets p at p.client.unwelcomed refl (filled p.client.unwelcomed))

-- -------- A client with an opened block gets on, if nothing of the block is pending.

-- ---- windows with nothing left

-- the handler's window, if it has one, has nothing that isn't acknowledged
abbrev pub NothingLeft : List WindowState → HandlerId → Type 0
NothingLeft ls h = (l : WindowState) → window_of h ls ≡ Some l → l.unacked ≡ []

all_empty : (ls : List WindowState) → NoTwice (handlers_at ls) → ((h : HandlerId) → NothingLeft ls h) → AllByRecursion (λ (l : WindowState). l.unacked ≡ []) ls
all_empty [] once none = tt
all_empty (l ∷ ls) once none = (
  none l.handler l (ap (λ t. if t then Some l else window_of l.handler ls) (same_handler_itself l.handler)),
  all_empty ls once.1 (λ h x found.
      none h x
      (let there = found_has (λ (y : WindowState). y.handler) h ls x in let same = (handler_decides l.handler h).0 in
      grind (arith, found, there, same, once.0))),
)

no_full_one : (all ls : List WindowState) → AllByRecursion (λ (l : WindowState). l.unacked ≡ []) ls → find (is_lowest_full all) ls ≡ None
no_full_one all [] empty = refl
no_full_one all (l ∷ ls) empty =
    let others = list_all (λ (x : WindowState). not (is_full x) || nat_le l.handler.0 x.handler.0) all in
    ap (λ (es : List Entry). if nat_le MAX_UNACKNOWLEDGED (length es) && others then Some l else find (is_lowest_full all) ls) empty.0
    ∙ no_full_one all ls empty.1

none_full : (ls : List WindowState) → AllByRecursion (λ (l : WindowState). l.unacked ≡ []) ls → lowest_full ls ≡ None
none_full ls all = ap (option_map (λ (l : WindowState). l.handler)) (no_full_one ls ls all)

over_all : (ls : List WindowState) (t : Bool) → t ≡ true → AllByRecursion (λ (l : WindowState). l.ended ≡ t) ls
    → AllByRecursion (λ (l : WindowState). l.unacked ≡ []) ls → all_over ls ≡ true
over_all [] t e ended all = refl
over_all (l ∷ ls) t e ended all = (λ i. ((ended.0 ∙ e) i && length (all.0 i) == 0) && over_all ls t e ended.1 all.1 i)

some_none : {A : Type 0} (x : A) (o : Option A) → o ≡ Some x → o ≡ None → ⊥
some_none x o e f = cc

module _ (w : World) (r : IsReached w) (e : AllFacts w r) (p : Party) (at : party_of (id_of p) w ≡ Some p)
    (q : ReservationState) (held : p.client.reservation ≡ Some q) (stage : q.stage ≡ Unlocking) (back : q.left ≡ [])
    (idle : (h : HandlerId) (s : Site) → site_of h w ≡ Some s → IsIdleIn s.core.state.queues q.block) where
  abbrev c : ClientState
  c = p.client

  sends_at : (h : HandlerId) → has q.handlers h ≡ true → (es : List Entry) (l : WindowState) → window_of h c.windows ≡ Some l → l.unacked ≡ es
      → (l.unacked ≡ []) ⊎ Useful w
  sends_at h named [] l window is = inl is
  sends_at h named (x ∷ xs) l window is =
      let free : has q.left h ≡ false = ap (λ hs. has hs h) back in
      let some : 0 < length l.unacked = subst (λ (es : List Entry). 0 < length es) (sym is) (omega arith) in
      let o = beside w r e p at q held h named in
      inr (useful w (next.Ask (id_of p) h) (log_useful w r e p at q held stage h named free l window some (idle h o.mark.site o.mark.found)))

  window_left : (h : HandlerId) → has q.handlers h ≡ true → (o : Option WindowState) → window_of h c.windows ≡ o → NothingLeft c.windows h ⊎ Useful w
  window_left h named None found = inl (λ l window. absurd (some_none l (window_of h c.windows) window found))
  window_left h named (Some l) found =
      ⊎_elim (λ (none : l.unacked ≡ []). inl (λ x window. subst (λ (y : WindowState). y.unacked ≡ []) (same_Some l x (sym found ∙ window)) none))
      (λ (u : Useful w). inr u) (sends_at h named l.unacked l found refl)

  member_has : (h : HandlerId) (hs : List HandlerId) → Member h hs → has hs h ≡ true
  member_has h [] m = absurd m
  member_has h (x ∷ xs) (inl same) = let own = (handler_decides x h).1 same in grind (arith, own)
  member_has h (x ∷ xs) (inr n) = let rest = member_has h xs n in grind (arith, nat_tests, rest)

  all_at : (hs : List HandlerId) → AllByRecursion (NothingLeft c.windows) hs → (h : HandlerId) → has hs h ≡ true → NothingLeft c.windows h
  all_at [] all h m = absurd (true≢false (sym m))
  all_at (x ∷ xs) all h m = let rest = all_at xs all.1 h in let same = (handler_decides x h).0 in grind (arith, rest, same, all.0)

  -- all is acknowledged, so the block can end
  all_sent : ((h : HandlerId) → NothingLeft c.windows h) → Useful w
  all_sent none = by_wait c.waits refl
    where
      fits : BlockFits c q
      fits = block_fits w r e p at q held

      empty : AllByRecursion (λ (l : WindowState). l.unacked ≡ []) c.windows
      empty = all_empty c.windows (subst NoTwice (sym (own_windows w r e p at q held).handlers) fits.reserves.apart) none

      by_end : c.waits ≡ None → (t : Bool) → is_ended c.windows ≡ t → Useful w
      by_end free false on = useful w (next.End (id_of p)) (ending_useful w r p at q held fits stage on free (none_full c.windows empty))
      by_end free true over = absurd (true≢false (sym (over_all c.windows (is_ended c.windows) over fits.windows.alike empty) ∙ fits.windows.going))

      by_wait : (o : Option (HandlerId × ℕ)) → c.waits ≡ o → Useful w
      by_wait None free = by_end free (is_ended c.windows) refl
      by_wait (Some y) waits =
          let g = (own_windows w r e p at q held).waits y.0 y.1 waits in
          absurd (omega (arith, ap length (none y.0 g.window g.found), g.query.number, g.query.waiting))

  pub run_useful : Useful w
  run_useful =
      ⊎_elim
      (λ (all : AllByRecursion (NothingLeft c.windows) q.handlers).
      all_sent (λ h l window.
      let named : has q.handlers h ≡ true = ap (λ hs. has hs h) (sym (own_windows w r e p at q held).handlers)
      ∙ found_has (λ (y : WindowState). y.handler) h c.windows l window in
      all_at q.handlers all h named l window))
      (λ (u : Useful w). u)
      (each_or (NothingLeft c.windows) (Useful w) q.handlers (λ h m. window_left h (member_has h q.handlers m) (window_of h c.windows) refl))

-- -------- The earliest block of the common list that has a private queue is first wherever it has one.

-- ---- which block comes before which

-- the first block stands in the list, and the second after it
abbrev pub Before : Block → Block → List Block → Type 0
Before a b [] = ⊥
Before a b (x ∷ xs) = ((x ≡ a) × (has_block xs b ≡ true)) ⊎ Before a b xs

pub left_before : {xs ys : List Block} → IsSubsequence xs ys → (a b : Block) → Before a b xs → Before a b ys
left_before nothing a b f = f
left_before (left_out y xs ys s) a b f = inr (left_before s a b f)
left_before (taken y xs ys s) a b (inl g) = inl (g.0, left_has s b g.1)
left_before (taken y xs ys s) a b (inr g) = inr (left_before s a b g)

before_pushed : (xs : List Block) (a b : Block) → has_block xs a ≡ true → Before a b (xs ++ b ∷ [])
before_pushed [] a b e = absurd (true≢false (sym e))
before_pushed (x ∷ xs) a b e =
    let same = same_block_is x a in let rest = before_pushed xs a b in grind (arith, same, rest, last xs)
  where
    last : (xs : List Block) → has_block (xs ++ b ∷ []) b ≡ true
    last [] = ap (λ t. t || false) (same_block_itself b)
    last (y ∷ ys) = or_right (same_block y b) (has_block (ys ++ b ∷ []) b) (last ys)

-- a block that has opened stands before one that is to open next
pub next_before : (opened js : List Block) (a b : Block) → IsSubsequence (opened ++ b ∷ []) js → has_block opened a ≡ true → Before a b js
next_before opened js a b left e = left_before left a b (before_pushed opened a b e)

-- ---- the first of a list

-- the first block of the list that passes the test: none before it does
pub record First (test : Block → Bool) (js : List Block) : Type 0 where
  pub block : Block
  pub passes : test block ≡ true
  pub none_before : (a : Block) → Before a block js → test a ≡ false

pub first_or : (test : Block → Bool) (js : List Block) → AreApart js → ((a : Block) → has_block js a ≡ true → test a ≡ false) ⊎ First test js
first_or test [] apart = inl (λ a m. absurd (true≢false (sym m)))
first_or test (x ∷ xs) apart =
    by_test (λ _. ((a : Block) → has_block (x ∷ xs) a ≡ true → test a ≡ false) ⊎ First test (x ∷ xs)) (test x)
    (λ is. inr (record {
      block = x;
      passes = is;
      none_before = λ a f.
          ⊎_elim
          (λ (g : (x ≡ a) × (has_block xs x ≡ true)). absurd (true≢false (sym g.1 ∙ apart.0)))
          (λ (g : Before a x xs). absurd (true≢false (sym (behind xs a x g) ∙ apart.0))) f;
    }))
    (λ is.
    ⊎_elim
    (λ (none : (a : Block) → has_block xs a ≡ true → test a ≡ false).
    inl (λ a m.
    let same = same_block_is x a in let rest = none a in grind (arith, same, rest)))
    (λ (f : First test xs). inr (record {
      block = f.block;
      passes = f.passes;
      none_before = λ a g.
          ⊎_elim
          (λ (h : (x ≡ a) × (has_block xs f.block ≡ true)). subst (λ y. test y ≡ false) h.0 is)
          (λ (h : Before a f.block xs). f.none_before a h) g;
    }))
    (first_or test xs apart.1))
  where
    behind : (xs : List Block) (a b : Block) → Before a b xs → has_block xs b ≡ true
    behind [] a b f = absurd f
    behind (y ∷ ys) a b (inl g) = or_right (same_block y b) (has_block ys b) g.1
    behind (y ∷ ys) a b (inr g) = or_right (same_block y b) (has_block ys b) (behind ys a b g)

-- ---- the first private queue

-- the block of a queue is one that has opened
queue_step : (t : Slot) (ts : List Slot) (x : PrivateQueue) → (Member x (queues_of ts) → has_block (blocks_of ts) x.block ≡ true) → (o : Option QueueState)
    → Member x (queue_at t o ++ queues_of ts) → (same_block t.block x.block || has_block (blocks_of ts) x.block) ≡ true
queue_step t ts x later None m = or_right (same_block t.block x.block) (has_block (blocks_of ts) x.block) (later m)
queue_step t ts x later (Some q) (inl e) = ap (λ y. y || has_block (blocks_of ts) x.block)
    (ap (λ (z : PrivateQueue). same_block t.block z.block) (sym e) ∙ same_block_itself t.block)
queue_step t ts x later (Some q) (inr n) = or_right (same_block t.block x.block) (has_block (blocks_of ts) x.block) (later n)

queue_block : (ss : List Slot) (x : PrivateQueue) → Member x (queues_of ss) → has_block (blocks_of ss) x.block ≡ true
queue_block [] x m = absurd m
queue_block (t ∷ ts) x m = queue_step t ts x (queue_block ts x) t.state m

pub opened_queue : (qs : List PrivateQueue) (bs : List Block) (ss : List Slot) → qs ≡ queues_of ss → bs ≡ blocks_of ss → (x : PrivateQueue) → Member x qs
    → has_block bs x.block ≡ true
opened_queue qs bs ss queues opened x m = ap (λ ys. has_block ys x.block) opened ∙ queue_block ss x (subst (Member x) queues m)

-- the block of the first queue comes before that of a later queue
first_is : (y z : PrivateQueue) (ys zs : List PrivateQueue) → y ∷ ys ≡ z ∷ zs → y ≡ z
first_is y z ys zs f = cc

rest_is : (y z : PrivateQueue) (ys zs : List PrivateQueue) → y ∷ ys ≡ z ∷ zs → ys ≡ zs
rest_is y z ys zs f = cc

before_step : (t : Slot) (ts : List Slot) (y : PrivateQueue) (ys : List PrivateQueue) (x : PrivateQueue) → Member x ys
    → (y ∷ ys ≡ queues_of ts → Before y.block x.block (blocks_of ts)) → (o : Option QueueState) → y ∷ ys ≡ queue_at t o ++ queues_of ts
    → Before y.block x.block (blocks_of (t ∷ ts))
before_step t ts y ys x m later None f = inr (later f)
before_step t ts y ys x m later (Some q) f =
    let tail = rest_is y (slot_queue t q) ys (queues_of ts) f in
    inl (sym (ap (λ (z : PrivateQueue). z.block) (first_is y (slot_queue t q) ys (queues_of ts) f)), queue_block ts x (subst (Member x) tail m))

first_before : (ss : List Slot) (y : PrivateQueue) (ys : List PrivateQueue) → y ∷ ys ≡ queues_of ss → (x : PrivateQueue) → Member x ys
    → Before y.block x.block (blocks_of ss)
first_before [] y ys e x m = absurd (cc)
first_before (t ∷ ts) y ys e x m = before_step t ts y ys x m (λ f. first_before ts y ys f x m) t.state e

pub order_of : (qs : List PrivateQueue) (bs : List Block) (ss : List Slot) → qs ≡ queues_of ss → bs ≡ blocks_of ss → (y : PrivateQueue) (ys : List PrivateQueue)
    → qs ≡ y ∷ ys → (x : PrivateQueue) → Member x ys → Before y.block x.block bs
order_of qs bs ss queues opened y ys is x m = subst (Before y.block x.block) (sym opened) (first_before ss y ys (sym is ∙ queues) x m)

-- where nothing can run, the first queue has nothing pending
pub first_empty : (y : PrivateQueue) (ys : List PrivateQueue) → front (y ∷ ys) ≡ None → y.entries ≡ []
first_empty y ys none = at y.entries none
  where
    at : (es : List Entry) → first_of y es ≡ None → es ≡ []
    at [] e = refl
    at (x ∷ xs) e = absurd (cc)

-- -------- Progress of the earliest block that has a private queue and, if no block has one, of every block past locking. The
-- client of a mark is in the world, at that block in the mark's incarnation (`Owner`). The stage of its reservation
-- decides: it opens where there is room, or goes on with its log, since its locks are back. A block that was given up
-- is gone by then.

-- ---- look-ups

pub any_member : {A : Type 0} (f : A → Bool) (xs : List A) (x : A) → Member x xs → f x ≡ true → list_any f xs ≡ true
any_member f [] x m e = absurd m
any_member f (y ∷ ys) x (inl same) e = let one = ap f same in grind (arith, one)
any_member f (y ∷ ys) x (inr n) e = let rest = any_member f ys x n e in grind (arith, rest)

pub passing : {A : Type 0} (f : A → Bool) (xs : List A) → list_any f xs ≡ true → Found f xs
passing f [] e = absurd (true≢false (sym e))
passing f (x ∷ xs) e =
    by_test (λ t. (t || list_any f xs) ≡ true → Found f (x ∷ xs)) (f x)
    (λ is _. record { item = x; in_list = inl refl; passes = is })
    (λ is g. let p = passing f xs g in record { item = p.item; in_list = inr p.in_list; passes = p.passes }) e

pub queue_there : (b : Block) (qs : List PrivateQueue) (x : PrivateQueue) → Member x qs → x.block ≡ b → has_queue b qs ≡ true
queue_there b [] x m e = absurd m
queue_there b (y ∷ ys) x (inl same) e =
    let own : is_queue_of b y ≡ true = (λ i. same_block b ((ap (λ (q : PrivateQueue). q.block) same ∙ e) i)) ∙ same_block_itself b in
    grind (arith, own)
queue_there b (y ∷ ys) x (inr n) e = let rest = queue_there b ys x n e in grind (arith, rest)

pub queue_found : (b : Block) (qs : List PrivateQueue) (o : Option PrivateQueue) → queue_of b qs ≡ o → is_some o ≡ true → (x : PrivateQueue)
    × (queue_of b qs ≡ Some x)
queue_found b qs None is e = absurd (true≢false (sym e))
queue_found b qs (Some x) is e = (x, is)

-- a client that has greeted is in the world
pub party_there : (w : World) (c : ClientId) → 1 ≤ inc_of w c → (p : Party) × (party_of c w ≡ Some p)
party_there w c le = at (party_of c w) refl le
  where
    at : (o : Option Party) → party_of c w ≡ o → 1 ≤ option_map_or (λ (p : Party). p.client.inc) o 0 → (p : Party) × (party_of c w ≡ Some p)
    at None e le = absurd (omega (arith, le))
    at (Some p) e le = (p, e)

-- an open queue
pub must_be_open : (q : PrivateQueue) → IsQueue q → q.entries ≡ [] → takes_more q.state ≡ true
must_be_open q is empty = at q.state refl
  where
    at : (t : QueueState) → q.state ≡ t → takes_more q.state ≡ true
    at Open e = ap takes_more e
    at Ended e = absurd (true≢false (sym (sym (ap ends empty) ∙ is.ended ∙ ap has_ended e)))
    at Cut e = let positive = is.some (ap is_cut e) in let size = ap length empty in absurd (omega (arith, positive, size))

module _ (w : World) (r : IsReached w) (e : AllFacts w r) where
  -- ---- blocks of which no Open was sent

  pub no_open_mark : (s : Site) → Member s w.sites → (k : Mark) → mark_of k.client s.core.state.marks ≡ Some k → NoOpen w (block_of k) → k.stage ≡ AtOpen → ⊥
  no_open_mark s m k found never at =
      let f = all_member (SiteOpened w) w.sites s e.background.openings.sites m in
      let fits = all_member (SiteFits w.joint) w.sites s e.background.ordered.sites m in
      let there = (All-mark_of (IsMarkOpened s.opened) k.client s.core.state.marks k f.marks found).opened at in
      true≢false (sym (e.background.standing.joint (block_of k) (left_has fits.left (block_of k) there)) ∙ never)

  pub is_open_at : (stage : MarkStage) (t : Bool) → (is_open stage && t) ≡ true → stage ≡ AtOpen
  is_open_at stage t f = by_cases stage f
    where
      by_cases : (stage : MarkStage) → (is_open stage && t) ≡ true → stage ≡ AtOpen
      by_cases AtOpen f = refl
      by_cases stage f = absurd (true≢false (sym f))

module _ (w : World) (r : IsReached w) (e : AllFacts w r) (settled : AllByRecursion IsSettled w.parties) where
  pub welcome_all : (p : Party) → Member p w.parties → p.client.unwelcomed ≡ []
  welcome_all p m = (all_member IsSettled w.parties p settled m).welcome.left

  -- a client with a mark at a site that it knows, in its own incarnation or past it
  pub mark_there : (s : Site) (p : Party) → Member p w.parties → has (known_by r.newcomers (id_of p)) (number_of s) ≡ true → MarkAt w p (number_of s)
  mark_there s p mp named =
      let known = all_member (PartyKnown (known_by r.newcomers) w.sites) w.parties p e.knowing.parties mp in
      mark_at w r e p (party_found w r p mp) (number_of s) (ap (λ ks. has ks (number_of s)) known.handlers ∙ named)
      (ap (λ ks. has ks (number_of s)) (welcome_all p mp))

  -- the client of a mark, and that mark
  pub record Owner (s : Site) (k : Mark) : Type 0 where
    pub party : Party
    pub in_world : Member party w.parties
    pub at : party_of (id_of party) w ≡ Some party
    pub mark : MarkAt w party (number_of s)
    pub site : mark.site ≡ s
    pub own : mark.mark ≡ k

  pub owner : (s : Site) → Member s w.sites → (k : Mark) → mark_of k.client s.core.state.marks ≡ Some k → Owner s k
  owner s m k found =
      let marks = all_member (SiteMarked w) w.sites s e.background.marked.sites m in
      let upto = all_member (MarksUpto w) w.sites s e.told.1.0.marks m in
      let one = (All-mark_of (MarkFits w (number_of s) s.ran) k.client s.core.state.marks k marks found).inc in
      let le = (All-mark_of (IsMarkUpto (inc_of w)) k.client s.core.state.marks k upto found).upto in
      let there = party_there w k.client (omega (arith, one, le)) in
      let p = there.0 in
      let mp : Member p w.parties = found_in _ w.parties p there.1 in
      let id : id_of p ≡ k.client = id_found k.client w p there.1 in
      let named = mark_known w r (number_of s) s (site_found w r s m) k.client k found in
      let a = mark_there s p mp (ap (λ c. has (known_by r.newcomers c) (number_of s)) id ∙ named) in
      let site : a.site ≡ s = same_Some a.site s (sym a.found ∙ site_found w r s m) in
      record {
        party = p;
        in_world = mp;
        at = party_found w r p mp;
        mark = a;
        site = site;
        own = same_Some a.mark k (sym a.there ∙ (λ i. mark_of (id i) (site i).core.state.marks) ∙ found);
      }

  -- ---- what a client that opens, or has opened, can do

  open_step : (p : Party) (at : party_of (id_of p) w ≡ Some p) (q : ReservationState) (held : p.client.reservation ≡ Some q) → q.stage ≡ Opening
      → ((s : Site) → Member s w.sites → IsHeldIn s.core.state.marks q.block → (length s.core.state.queues == MAX_QUEUES) ≡ false) → (hs : List HandlerId)
      → q.left ≡ hs → Filled hs → Useful w
  open_step p at q held stage room _ is nothing_in = absurd (true≢false
      (sym (ap is_empty is) ∙ (block_fits w r e p at q held).reserves.stays (subst IsSettingOut (sym stage) opens)))
  open_step p at q held stage room _ is (first_in h hs) =
      useful w (next.Ask (id_of p) h) (open_useful w r e p at q held stage h (ap (λ ks. has ks h) is ∙ has_head h hs)
      (λ s here. room s (found_in _ w.sites s here)))

  pub by_stage : (p : Party) (mp : Member p w.parties) (at : party_of (id_of p) w ≡ Some p) (q : ReservationState) (held : p.client.reservation ≡ Some q) →
      ((s : Site) → Member s w.sites → IsHeldIn s.core.state.marks q.block → (length s.core.state.queues == MAX_QUEUES) ≡ false) →
      ((s : Site) → Member s w.sites → IsIdleIn s.core.state.queues q.block) → (stage : Stage) → q.stage ≡ stage → (q.stage ≡ Locking) ⊎ Useful w
  by_stage p mp at q held room idle Locking is = inl is
  by_stage p mp at q held room idle Opening is = inr (open_step p at q held is room q.left refl (filled q.left))
  by_stage p mp at q held room idle Unlocking is =
      let back : q.left ≡ [] = subst (GaveBack q) is (subst HasGivenBack held (all_member IsSettled w.parties p settled mp).back) in
      inr (run_useful w r e p at q held is back (λ h s here. idle s (found_in _ w.sites s here)))
  by_stage p mp at q held room idle GivingUp is =
      let back : q.left ≡ [] = subst (GaveBack q) is (subst HasGivenBack held (all_member IsSettled w.parties p settled mp).back) in
      absurd (true≢false (sym ((λ i. is_given_up_in (is i) && is_empty (back i))) ∙ (block_fits w r e p at q held).on))
