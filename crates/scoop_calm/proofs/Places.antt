-- The number `left` never grows when a handler hears, or when a client hears or ends its block. Two worlds with the same
-- clients and handlers have the same `left`.
use Rattle.scoop_calm.proofs.Names.{◌≡◌, ℕ, suc, ◌+◌, ◌-◌, ◌<◌, ◌≤◌, inl, inr, true, false, List, [], ◌∷◌, find, Option, Some, None, refl, sym, ap, ◌∙◌, subst}
use Rattle.scoop_calm.proofs.Names.{⊎_elim, arith, nat_tests, if◌then◌else◌, option_map_or, Block, ClientId, HandlerId, same_block, Mark, IsNewer, IsFurther}
use Rattle.scoop_calm.proofs.Names.{Grows, block_of, HandlerLog, BlockLog, is_share_of, by_test, total, entries_of, is_later, share_left, block_left}
use Rattle.scoop_calm.proofs.Names.{places_from, Member, ◌*◌, ◌⊎◌, ◌||◌, Bool, IsTrue, length, length-append, length-drop, nat_lt, IsFalse, unwrap_or, Entry}
use Rattle.scoop_calm.proofs.Names.{Message, ends, last_number, same_client, client_decides, PrivateQueue, cut, cut_open, left_by_cut, opened, put_all, AtHeld}
use Rattle.scoop_calm.proofs.Names.{AtShut, MarksGrow, is_held, fresh_mark, opened_mark, with_received, without_hold, mark_of, set_mark, add_mark, HandlerState}
use Rattle.scoop_calm.proofs.Names.{IsState, Hearing, greeting_mark, holder_without, new_entries, Row, first_greeting, newer_greeting, lock_granted, is_opened}
use Rattle.scoop_calm.proofs.Names.{unlock_of_a_block_never_held, is_freed, is_taken, Grows-refl, mark_of-client, mark_of-set_mark_own, mark_of-add_mark_own}
use Rattle.scoop_calm.proofs.Names.{Party, id_of, queue_work, mark_at, places_left, hold_left, lock_left, handler_left, MarkStage as Stage, holder_left}
use Rattle.scoop_calm.proofs.Names.{out_left, nat_le, or_parts, same_handler, Step, ReservationState, step_row, WindowState, acknowledged, at_window, logged}
use Rattle.scoop_calm.proofs.Names.{ClientState, with_reservation, with_windows, idle, ClientNote, heard, after_step, stepped, up_to, HeardRow, passed_over}
use Rattle.scoop_calm.proofs.Names.{is_welcomed, takes_step, is_acknowledged, is_accepted, heard_row, block_work, client_work, stage_work, wait_work}
use Rattle.scoop_calm.proofs.Names.{windows_work, all_over, map, Core, World, Site, site_of, party_of, mark_room, clients_left, room_left, work_left, runs_left}
use Rattle.scoop_calm.proofs.Names.{jobs_left, left}
use Rattle.scoop_calm.proofs.Lists.{total_append, total_newer, less_without, lowest_has}
use Rattle.scoop_calm.proofs.Sending.{marks_distinct, acknowledged_window, counted}
use Rattle.scoop_reserve.specs.Hearing as reservation
use Rattle.scoop_reserve.proofs.Rows as rows
use Rattle.scoop_calm.proofs.Clients.{ClientFits}
use Rattle.scoop_reserve.specs.declared.stage.Step.TheVariants as step
use Rattle.scoop_calm.proofs.Talk.{stepped_id, stepped_less}
use Rattle.scoop_calm.proofs.Moves.{Less, for_clients, for_room, for_work}

-- -------- A handler has less to take from a client whose mark goes on. A mark goes on to newer incarnations and blocks, and
-- along the entries of its block.

-- ---- sums

pub total_le : {A : Type 0} (f g : A → ℕ) (xs : List A) → ((y : A) → Member y xs → f y ≤ g y) → total f xs ≤ total g xs
total_le f g [] all = omega arith
total_le f g (y ∷ ys) all = omega (arith, all y (inl refl), total_le f g ys (λ z m. all z (inr m)))

pub total_drop : {A : Type 0} (f g : A → ℕ) (n : ℕ) (xs : List A) (x : A) → ((y : A) → Member y xs → f y ≤ g y) → Member x xs → f x + n ≤ g x
    → total f xs + n ≤ total g xs
total_drop f g n [] x all m less = absurd m
total_drop f g n (y ∷ ys) x all m less =
    ⊎_elim
    (λ (e : y ≡ x).
    let here : f y + n ≤ g y = subst (λ z. f z + n ≤ g z) (sym e) less in
    omega (arith, here, total_le f g ys (λ z k. all z (inr k))))
    (λ (k : Member x ys).
    omega (arith, all y (inl refl), total_drop f g n ys x (λ z j. all z (inr j)) k less)) m

pub total_same : {A : Type 0} (f g : A → ℕ) (xs : List A) → ((y : A) → Member y xs → f y ≡ g y) → total f xs ≡ total g xs
total_same f g [] same = refl
total_same f g (y ∷ ys) same = (λ i. same y (inl refl) i + total_same f g ys (λ z m. same z (inr m)) i)

-- ---- one block

module _ (k x : Mark) (b : Block) (client : k.client ≡ x.client) where
  number : k.client.0 ≡ x.client.0
  number = ap (λ (c : ClientId). c.0) client

  later_before : Grows k x → is_later b x ≡ true → is_later b k ≡ true
  later_before (inl (inl inc)) e = grind (arith, nat_tests, number)
  later_before (inl (inr newer)) e = let inc = newer.0 in let num = newer.1 in grind (arith, nat_tests, number)
  later_before (inr f) e = let inc = f.inc in let num = f.num in grind (arith, nat_tests, number)

  newer_later : IsNewer k x → same_block b (block_of x) ≡ true → is_later b k ≡ true
  newer_later (inl inc) e = grind (arith, nat_tests, number)
  newer_later (inr newer) e = let inc = newer.0 in let num = newer.1 in grind (arith, nat_tests, number)

  further_same : IsFurther k x → same_block b (block_of x) ≡ true → same_block b (block_of k) ≡ true
  further_same f e = let inc = f.inc in let num = f.num in grind (arith, nat_tests, number)

own_now : (k : Mark) (b : Block) → same_block b (block_of k) ≡ true → is_later b k ≡ false
own_now k b e = grind (arith, nat_tests)

own_same : (k : Mark) → same_block (block_of k) (block_of k) ≡ true
own_same k = grind (arith, nat_tests)

later_share : (k : Mark) (b : Block) (l : HandlerLog) → is_later b k ≡ true → share_left k b l ≡ suc (entries_of l)
later_share k b l is = ap (λ t. if t then suc (entries_of l) else if same_block b (block_of k) then entries_of l - k.received else 0) is

own_share : (k : Mark) (b : Block) (l : HandlerLog) → same_block b (block_of k) ≡ true → share_left k b l ≡ entries_of l - k.received
own_share k b l is =
    ap (λ t. if t then suc (entries_of l) else if same_block b (block_of k) then entries_of l - k.received else 0) (own_now k b is)
    ∙ ap (λ t. if t then entries_of l - k.received else 0) is

share_less : (k x : Mark) (b : Block) (l : HandlerLog) → k.client ≡ x.client → Grows k x → share_left x b l ≤ share_left k b l
share_less k x b l client grows =
    by_test (λ _. share_left x b l ≤ share_left k b l) (is_later b x)
    (λ is.
    omega (arith, later_share x b l is, later_share k b l (later_before k x b client grows is)))
    (λ not_later.
    by_test (λ _. share_left x b l ≤ share_left k b l) (same_block b (block_of x))
    (λ is. at_block grows is)
    (λ other.
    let none : share_left x b l ≡ 0 =
    (λ i. if not_later i then suc (entries_of l) else if other i then entries_of l - x.received else 0) in
    omega (arith, none)))
  where
    at_block : Grows k x → same_block b (block_of x) ≡ true → share_left x b l ≤ share_left k b l
    at_block (inl newer) is = omega (arith, own_share x b l is, later_share k b l (newer_later k x b client newer is))
    at_block (inr f) is = omega (arith, own_share x b l is, own_share k b l (further_same k x b client f is), f.received)

block_less : (h : HandlerId) (k x : Mark) (l : BlockLog) → k.client ≡ x.client → Grows k x → block_left h x l ≤ block_left h k l
block_less h k x l client grows = by_share (find (is_share_of h) l.shares)
  where
    by_share : (o : Option HandlerLog) → option_map_or (share_left x l.block) o 0 ≤ option_map_or (share_left k l.block) o 0
    by_share None = omega arith
    by_share (Some s) = share_less k x l.block s client grows

-- ---- all blocks

-- the block has been reserved, and this is logged of it for the handler
pub record IsLogged (logs : List BlockLog) (h : HandlerId) (b : Block) (es : HandlerLog) : Type 0 where
  pub log : BlockLog
  pub member : Member log logs
  pub block : log.block ≡ b
  pub found : find (is_share_of h) log.shares ≡ Some es

module _ (logs : List BlockLog) (h : HandlerId) (inc : ℕ) (k x : Mark) (client : k.client ≡ x.client) where
  inc_grows : Grows k x → k.inc ≤ x.inc
  inc_grows (inl (inl older)) = omega (arith, older)
  inc_grows (inl (inr newer)) = let same = newer.0 in omega (arith, same)
  inc_grows (inr f) = let same = f.inc in omega (arith, same)

  pub places_less : Grows k x → places_from logs h inc x ≤ places_from logs h inc k
  places_less grows = omega (arith, total_le (block_left h x) (block_left h k) logs (λ l m. block_less h k x l client grows), inc_grows grows)

  -- a newer incarnation has greeted
  pub places_greeted : k.inc < x.inc → x.inc ≤ inc → places_from logs h inc x + 1 ≤ places_from logs h inc k
  places_greeted newer upto = omega (arith, total_le (block_left h x) (block_left h k) logs (λ l m. block_less h k x l client (inl (inl newer))), newer, upto)

  dropped : (n : ℕ) (es : HandlerLog) → IsLogged logs h (block_of x) es → Grows k x
      → share_left x (block_of x) es + n ≤ share_left k (block_of x) es → places_from logs h inc x + n ≤ places_from logs h inc k
  dropped n es is grows less =
      let at = is.found in
      let b = is.block in
      let here : block_left h x is.log + n ≤ block_left h k is.log =
      subst (λ o. option_map_or (share_left x is.log.block) o 0 + n ≤ option_map_or (share_left k is.log.block) o 0) (sym at)
      (subst (λ c. share_left x c es + n ≤ share_left k c es) (sym b) less) in
      omega (arith, total_drop (block_left h x) (block_left h k) n logs is.log (λ l m. block_less h k x l client grows) is.member here, inc_grows grows)

  -- a newer block is there
  pub places_begun : (es : HandlerLog) → k.inc ≡ x.inc → k.num < x.num → IsLogged logs h (block_of x) es
      → places_from logs h inc x + 1 ≤ places_from logs h inc k
  places_begun es same newer is =
      let besides = later_share k (block_of x) es (newer_later k x (block_of x) client (inr (same, newer)) (own_same x)) in
      dropped 1 es is (inl (inr (same, newer))) (omega (arith, own_share x (block_of x) es (own_same x), besides))

  -- more entries are received
  pub places_received : (n : ℕ) (es : HandlerLog) → IsFurther k x → x.received ≡ k.received + n → x.received ≤ entries_of es → IsLogged logs h (block_of x) es
      → places_from logs h inc x + n ≤ places_from logs h inc k
  places_received n es f more few is =
      dropped n es is (inr f)
      (omega (arith, own_share x (block_of x) es (own_same x), own_share k (block_of x) es (further_same k x (block_of x) client f (own_same x)), more, few))

-- -------- A handler that hears a message stays as it is, or has less left. Each changing row of its table moves a mark on,
-- gives back a lock, or opens a block.

-- ---- what is so of a mark

-- the block was reserved for the handler, and no more of it was received than there is
pub record HasLog (logs : List BlockLog) (h : HandlerId) (k : Mark) : Type 0 where
  pub entries : HandlerLog
  pub logged : IsLogged logs h (block_of k) entries
  pub received : k.received ≤ entries_of entries

pub record IsKnown (logs : List BlockLog) (ps : List Party) (h : HandlerId) (k : Mark) : Type 0 where
  pub some : 1 ≤ k.inc
  pub party : Party
  pub member : Member party ps
  pub id : id_of party ≡ k.client
  pub upto : k.inc ≤ party.client.inc
  pub named : (k.num ≡ 0) ⊎ HasLog logs h k
  pub taken : (k.received ≡ 0) ⊎ HasLog logs h k

-- ---- the places

client_at : (c : ClientId) (marks : List Mark) → (mark_at c marks).client ≡ c
client_at c marks = by_mark (mark_of c marks) refl
  where
    by_mark : (o : Option Mark) → mark_of c marks ≡ o → (unwrap_or o (greeting_mark c 0)).client ≡ c
    by_mark None e = refl
    by_mark (Some k) e = mark_of-client c marks k e

module _ (logs : List BlockLog) (ps : List Party) (s t : HandlerState) (number : t.number ≡ s.number) (grows : MarksGrow s.marks t.marks)
    (known : (c : ClientId) (k : Mark) → mark_of c t.marks ≡ Some k → IsKnown logs ps s.number k) where
  grows_at : (c : ClientId) → Grows (mark_at c s.marks) (mark_at c t.marks)
  grows_at c = before (mark_of c s.marks) refl
    where
      after : (o : Option Mark) → mark_of c t.marks ≡ o → Grows (greeting_mark c 0) (unwrap_or o (greeting_mark c 0))
      after None e = Grows-refl (greeting_mark c 0)
      after (Some x) e = let some = (known c x e).some in inl (inl (omega (arith, some)))

      before : (o : Option Mark) → mark_of c s.marks ≡ o → Grows (unwrap_or o (greeting_mark c 0)) (mark_at c t.marks)
      before None e = after (mark_of c t.marks) refl
      before (Some k) e = let g = grows c k e in subst (λ o. Grows k (unwrap_or o (greeting_mark c 0))) (sym g.1) g.2

  same_client_at : (c : ClientId) → (mark_at c s.marks).client ≡ (mark_at c t.marks).client
  same_client_at c = client_at c s.marks ∙ sym (client_at c t.marks)

  at_number : (p : Party) → places_left logs t p ≡ places_from logs s.number p.client.inc (mark_at (id_of p) t.marks)
  at_number p = ap (λ h. places_from logs h p.client.inc (mark_at (id_of p) t.marks)) number

  no_more : (p : Party) → places_left logs t p ≤ places_left logs s p
  no_more p =
      let c = id_of p in
      omega (arith, at_number p, places_less logs s.number p.client.inc (mark_at c s.marks) (mark_at c t.marks) (same_client_at c) (grows_at c))

  pub places_kept : total (places_left logs t) ps ≤ total (places_left logs s) ps
  places_kept = total_le (places_left logs t) (places_left logs s) ps (λ p m. no_more p)

  -- the mark of one client has gone on so far
  pub places_dropped : (n : ℕ) (c : ClientId) (x : Mark) → mark_of c t.marks ≡ Some x
      → ((inc : ℕ) → x.inc ≤ inc → (mark_at c s.marks).client ≡ x.client
      → places_from logs s.number inc x + n ≤ places_from logs s.number inc (mark_at c s.marks))
      → total (places_left logs t) ps + n ≤ total (places_left logs s) ps
  places_dropped n c x found drops =
      let y = known c x found in
      let client : x.client ≡ c = mark_of-client c t.marks x found in
      let own : id_of y.party ≡ c = y.id ∙ client in
      let now : mark_at (id_of y.party) t.marks ≡ x = ap (λ d. mark_at d t.marks) own ∙ ap (λ o. unwrap_or o (greeting_mark c 0)) found in
      let was : mark_at (id_of y.party) s.marks ≡ mark_at c s.marks = ap (λ d. mark_at d s.marks) own in
      let inc = y.party.client.inc in
      let besides = at_number y.party ∙ ap (places_from logs s.number inc) now in
      total_drop (places_left logs t) (places_left logs s) n ps y.party (λ p m. no_more p) y.member
      (omega (arith, besides, ap (places_from logs s.number inc) was, drops inc y.upto (client_at c s.marks ∙ sym client)))

-- ---- the lock

holds_added : (k : Mark) (marks : List Mark) → total hold_left (add_mark k marks) ≡ hold_left k + total hold_left marks
holds_added k [] = refl
holds_added k (x ∷ xs) =
    let rest = holds_added k xs in grind (arith, rest)

holds_set : (s : HandlerState) (k old : Mark) → IsState s → mark_of k.client s.marks ≡ Some old
    → total hold_left (set_mark k s.marks) + hold_left old ≡ total hold_left s.marks + hold_left k
holds_set s k old is found = total_newer (λ (x : Mark). x.client) same_client client_decides hold_left k old s.marks (marks_distinct s.marks is.ascending) found

unheld : (k : Mark) → hold_left (without_hold k) ≡ 0
unheld k = by_stage k.stage
  where
    by_stage : (t : Stage) → hold_left (record k { stage = if is_held t then AtShut else t }) ≡ 0
    by_stage AtHeld = refl
    by_stage stage = refl

holder_less : (c : ClientId) (o : Option Block) → holder_left (holder_without c o) ≤ holder_left o
holder_less c None = omega arith
holder_less c (Some b) = grind arith

-- ---- the private queues

queued_new : (b : Block) (qs : List PrivateQueue) → total queue_work (opened b qs) ≡ total queue_work qs
queued_new b [] = refl
queued_new b (q ∷ qs) = ap (λ n. length q.entries + n) (queued_new b qs)

cut_less : (q : PrivateQueue) (es : List Entry) → total queue_work (cut_open q es) ≤ length es
cut_less q [] = omega arith
cut_less q (e ∷ es) = omega arith

queued_cut : (b : Block) (qs : List PrivateQueue) → total queue_work (cut b qs) ≤ total queue_work qs
queued_cut b [] = omega arith
queued_cut b (q ∷ qs) =
    let less : total queue_work (left_by_cut q) ≤ length q.entries = grind (arith, cut_less q q.entries) in
    grind (arith, total_append queue_work (left_by_cut q) qs, less, queued_cut b qs)

queued_put : (b : Block) (es : List Entry) (qs : List PrivateQueue) → total queue_work (put_all b es qs) ≤ total queue_work qs + length es
queued_put b es [] = omega arith
queued_put b es (q ∷ qs) =
    grind (arith, length-append q.entries es, queued_put b es qs)

-- ---- each row

not_ended : (ended more : Bool) → IsTrue ended → IsFalse (ended || more) → ⊥
not_ended ended more t f = grind (arith, nat_tests)

less_of : (p q l m a b o n : ℕ) → p + n ≤ q → l + 2 * a + 1 ≤ m + 2 * b + 3 * n → o ≤ 2 * a → 3 * p + l + (2 * a - o) < 3 * q + m + (2 * b - o)
less_of p q l m a b o n places rest busy = omega arith

module _ (logs : List BlockLog) (ps : List Party) (s : HandlerState) (out : Bool) (is : IsState s) where
  abbrev Falls : HandlerState → Type 0
  Falls t = handler_left logs ps t out < handler_left logs ps s out

  -- so many places fewer are left, and this makes up for the lock and for what is to run
  fall : (t : HandlerState) (n : ℕ) → total (places_left logs t) ps + n ≤ total (places_left logs s) ps
      → lock_left t + 2 * total queue_work t.queues + 1 ≤ lock_left s + 2 * total queue_work s.queues + 3 * n
      → out_left out ≤ 2 * total queue_work t.queues → Falls t
  fall t n places rest busy =
      less_of (total (places_left logs t) ps) (total (places_left logs s) ps) (lock_left t) (lock_left s) (total queue_work t.queues)
      (total queue_work s.queues) (out_left out) n places rest busy

  pub hears_less : (m : Message) (h : Hearing) → Row s m h → h.0.number ≡ s.number → MarksGrow s.marks h.0.marks
      → ((c : ClientId) (k : Mark) → mark_of c h.0.marks ≡ Some k → IsKnown logs ps s.number k)
      → out_left out ≤ 2 * total queue_work h.0.queues → Falls h.0 ⊎ (h.0 ≡ s)
  hears_less m h (first_greeting x c inc here none room) number grows known busy =
      let k = greeting_mark c inc in
      let found : mark_of c h.0.marks ≡ Some k = mark_of-add_mark_own k s.marks none in
      let old : mark_at c s.marks ≡ greeting_mark c 0 = ap (λ o. unwrap_or o (greeting_mark c 0)) none in
      let some = (known c k found).some in
      let places = places_dropped logs ps s h.0 number grows known 1 c k found (λ i upto client.
      subst (λ y. places_from logs s.number i k + 1 ≤ places_from logs s.number i y) (sym old)
      (places_greeted logs s.number i (greeting_mark c 0) k refl (omega (arith, some)) upto)) in
      inl (fall h.0 1 places (omega (arith, holds_added k s.marks)) busy)
  hears_less m h (newer_greeting x c inc k here found newer) number grows known busy =
      let y = greeting_mark c inc in
      let now : mark_of c h.0.marks ≡ Some y = mark_of-set_mark_own y k s.marks found in
      let old : mark_at c s.marks ≡ k = ap (λ o. unwrap_or o (greeting_mark c 0)) found in
      let places = places_dropped logs ps s h.0 number grows known 1 c y now (λ i upto client.
      subst (λ z. places_from logs s.number i y + 1 ≤ places_from logs s.number i z) (sym old)
      (places_greeted logs s.number i k y (sym (ap (λ (z : Mark). z.client) old) ∙ client) newer upto)) in
      inl (fall h.0 1 places (omega (arith, holds_set s y k is found, holder_less c s.holder, queued_cut (block_of k) s.queues)) busy)
  hears_less m h (lock_granted x b k here at newer free clear) number grows known busy =
      let y = fresh_mark b AtHeld in
      let now : mark_of b.client h.0.marks ≡ Some y = mark_of-set_mark_own y k s.marks at.found in
      let old : mark_at b.client s.marks ≡ k = ap (λ o. unwrap_or o (greeting_mark b.client 0)) at.found in
      let places = places_dropped logs ps s h.0 number grows known 1 b.client y now (λ i upto client.
      subst (λ z. places_from logs s.number i y + 1 ≤ places_from logs s.number i z) (sym old)
      (⊎_elim
      (λ (e : y.num ≡ 0). absurd (omega (arith, newer, e)))
      (λ (l : HasLog logs s.number y).
      places_begun logs s.number i k y (sym (ap (λ (z : Mark). z.client) old) ∙ client) l.entries at.inc newer l.logged)
      (known b.client y now).named)) in
      inl (fall h.0 1 places (omega (arith, holds_set s y k is at.found, ap holder_left free)) busy)
  hears_less m h (unlock_of_a_block_never_held x b k here at newer clear) number grows known busy =
      let y = fresh_mark b AtShut in
      let now : mark_of b.client h.0.marks ≡ Some y = mark_of-set_mark_own y k s.marks at.found in
      let old : mark_at b.client s.marks ≡ k = ap (λ o. unwrap_or o (greeting_mark b.client 0)) at.found in
      let places = places_dropped logs ps s h.0 number grows known 1 b.client y now (λ i upto client.
      subst (λ z. places_from logs s.number i y + 1 ≤ places_from logs s.number i z) (sym old)
      (⊎_elim
      (λ (e : y.num ≡ 0). absurd (omega (arith, newer, e)))
      (λ (l : HasLog logs s.number y).
      places_begun logs s.number i k y (sym (ap (λ (z : Mark). z.client) old) ∙ client) l.entries at.inc newer l.logged)
      (known b.client y now).named)) in
      inl (fall h.0 1 places (omega (arith, holds_set s y k is at.found)) busy)
  hears_less m h (is_opened x b k here at same held room) number grows known busy =
      let own = ap (λ c. mark_of c s.marks) (mark_of-client b.client s.marks k at.found) ∙ at.found in
      inl (fall h.0 0 (omega (arith, places_kept logs ps s h.0 number grows known))
      (omega (arith, holds_set s (opened_mark k) k is own, ap (λ (t : Stage). hold_left (record k { stage = t })) held, queued_new b s.queues)) busy)
  hears_less m h (is_freed x b k here at same holds) number grows known busy =
      let own = ap (λ c. mark_of c s.marks) (mark_of-client b.client s.marks k at.found) ∙ at.found in
      inl (fall h.0 0 (omega (arith, places_kept logs ps s h.0 number grows known))
      (omega (arith, holds_set s (without_hold k) k is own, unheld k, ap holder_left holds)) busy)
  hears_less m h (is_taken x b n es k here at next on room) number grows known busy =
      let y = with_received (last_number n es) (ends es) k in
      let client = mark_of-client b.client s.marks k at.heard.found in
      let own = ap (λ c. mark_of c s.marks) client ∙ at.heard.found in
      let now : mark_of k.client h.0.marks ≡ Some y = mark_of-set_mark_own y k s.marks own in
      let old : mark_at k.client s.marks ≡ k = ap (λ o. unwrap_or o (greeting_mark k.client 0)) own in
      let more = next.new in
      let count : y.received ≡ k.received + length (new_entries n es k) = omega (arith, more, next.no_gap, length-drop (k.received + 1 - n) es) in
      let further : IsFurther k y =
      record { inc = refl; num = refl; stage = inl refl; received = omega (arith, more); ended = λ t. absurd (not_ended k.ended _ t on) } in
      let places = places_dropped logs ps s h.0 number grows known (length (new_entries n es k)) k.client y now (λ i upto same.
      subst (λ z. places_from logs s.number i y + length (new_entries n es k) ≤ places_from logs s.number i z) (sym old)
      (⊎_elim
      (λ (e : y.received ≡ 0). absurd (omega (arith, more, e)))
      (λ (l : HasLog logs s.number y). places_received logs s.number i k y refl (length (new_entries n es k)) l.entries further count l.received l.logged)
      (known k.client y now).taken)) in
      inl (fall h.0 (length (new_entries n es k)) places (omega (arith, holds_set s y k is own, queued_put b (new_entries n es k) s.queues, more, count)) busy)
  hears_less m h r number grows known busy = inr refl

-- -------- A client that hears a message stays as it is, or has less to do. A client that ends its block has less to do.

-- the client has less to do, or is as it was
abbrev pub Lessens : ClientState → ClientState → Type 0
Lessens c d = (client_work d < client_work c) ⊎ (d ≡ c)

windows_less : (h : HandlerId) (n : ℕ) (ls : List WindowState) → windows_work (at_window h (acknowledged n) ls) ≤ windows_work ls
windows_less h n [] = omega arith
windows_less h n (l ∷ ls) =
    grind (arith, acknowledged_window n l, windows_less h n ls)

-- ---- a step of the reservation

module _ (c : ClientState) (r : ReservationState) (held : c.reservation ≡ Some r) (fits : ClientFits c) where
  nothing_new : stepped c r ≡ c
  nothing_new =
      ap (λ t. if t then idle c else with_reservation c r) (fits.block r held).on
      ∙ ap (λ (o : Option ReservationState). record c { reservation = o }) (sym held)

  step_lessens : (m : Message) (s : ReservationState) (st : Step) → rows.HeardRow r m s st → Lessens c (after_step c s st).0
  step_lessens m s st (rows.passed_over n) = inr refl
  step_lessens m s st (rows.one_is_locked h at low more) =
      inl (stepped_less c r s held (omega (arith, less_without h r.left (lowest_has h r.left low), ap (stage_work r) at)))
  step_lessens m s st (rows.all_are_locked h at low none) =
      inl (stepped_less c r s held (omega (arith, less_without h r.left (lowest_has h r.left low), ap (stage_work r) at)))
  step_lessens m s st (rows.is_busy h at low) = inr nothing_new
  step_lessens m s st (rows.one_is_opened h at among more) = inl (stepped_less c r s held (omega (arith, less_without h r.left among, ap (stage_work r) at)))
  step_lessens m s st (rows.all_are_opened h at among none) = inl (stepped_less c r s held (omega (arith, less_without h r.left among, ap (stage_work r) at)))
  step_lessens m s st (rows.is_unlocked h at among) = inl (stepped_less c r s held (omega (arith, less_without h r.left among, ap (stage_work r) at)))
  step_lessens m s st (rows.is_given_back h at among) = inl (stepped_less c r s held (omega (arith, less_without h r.left among, ap (stage_work r) at)))

-- ---- each row

work_of : (c : ClientState) (r : ReservationState) (w : Option (HandlerId × ℕ)) → c.reservation ≡ Some r → c.waits ≡ w
    → client_work c ≡ length c.unwelcomed + (stage_work r r.stage + windows_work c.windows) + wait_work w
work_of c r w held waits = (λ i. length c.unwelcomed + block_work c.windows (held i) + wait_work (waits i))

row_lessens : (c : ClientState) (m : Message) (d : ClientState) (note : ClientNote) → HeardRow c m d note → ClientFits c → (heard c m).0 ≡ d → Lessens c d
row_lessens c m d note (passed_over n) fits same = inr refl
row_lessens c m d note (is_welcomed h left) fits same = let shorter = less_without h c.unwelcomed left in inl (omega (arith, shorter))
row_lessens c m d note (takes_step n r held) fits same = step_lessens c r held fits n (reservation.heard r n).0 (reservation.heard r n).1 (step_row r n)
row_lessens c m d note (is_acknowledged h n r l held opened window new) fits same =
    let parts = or_parts (nat_lt (logged l) n) (nat_le (up_to h n c.waits) l.acked) new in
    let few : n ≤ logged l = let e = parts.0 in grind (arith, nat_tests) in
    let more : l.acked < up_to h n c.waits = let e = parts.1 in grind (arith, nat_tests) in
    let counts = counted c r held opened h l window n few in
    let is : counts.notice.0 ≡ d = ap (λ (x : ClientState × ClientNote). x.0) (sym counts.is) ∙ same in
    inl (subst (λ (x : ClientState). client_work x < client_work c) is (counts.less more))
row_lessens c m d note (is_accepted h n a r held opened waits) fits same =
    let ls = at_window h (acknowledged n) c.windows in
    inl (omega (arith, work_of c r (Some (h, n)) held waits, work_of (with_windows c ls None) r None held refl, windows_less h n c.windows))

pub hears_lessens : (c : ClientState) (m : Message) → ClientFits c → Lessens c (heard c m).0
hears_lessens c m fits = row_lessens c m (heard c m).0 (heard c m).1 (heard_row c m) fits refl

-- ---- it keeps its name

step_id : (c : ClientState) (r : ReservationState) (st : Step) → (after_step c r st).0.id ≡ c.id
step_id c r step.Ignored = refl
step_id c r st = stepped_id c r

row_id : (c : ClientState) (m : Message) (d : ClientState) (note : ClientNote) → HeardRow c m d note → d.id ≡ c.id
row_id c m d note (takes_step n r held) = step_id c (reservation.heard r n).0 (reservation.heard r n).1
row_id c m d note (is_acknowledged h n r l held opened window new) =
    let e = with_windows c (at_window h (acknowledged (up_to h n c.waits)) c.windows) c.waits in
    by_test (λ t. (if t then idle e else e).id ≡ c.id) (all_over e.windows) (λ _. refl) (λ _. refl)
row_id c m d note row = refl

pub heard_id : (c : ClientState) (m : Message) → (heard c m).0.id ≡ c.id
heard_id c m = row_id c m (heard c m).0 (heard c m).1 (heard_row c m)

-- -------- Worlds with the same clients and the same handlers; the messages sent may differ.

abbrev pub cores : World → List Core
cores w = map (λ (s : Site). s.core) w.sites

abbrev pub clients : World → List ClientState
clients w = map (λ (p : Party). p.client) w.parties

pub record Alike (v w : World) : Type 0 where
  pub cores : cores v ≡ cores w
  pub clients : clients v ≡ clients w
  pub logs : v.logs ≡ w.logs

pub alike_self : (w : World) → Alike w w
alike_self w = record { cores = refl; clients = refl; logs = refl }

pub alike_back : (v w : World) → Alike v w → Alike w v
alike_back v w a = record { cores = sym a.cores; clients = sym a.clients; logs = sym a.logs }

pub alike_on : (u v w : World) → Alike u v → Alike v w → Alike u w
alike_on u v w a b = record { cores = a.cores ∙ b.cores; clients = a.clients ∙ b.clients; logs = a.logs ∙ b.logs }

-- ---- as much is left

pub total_map : {A B : Type 0} (f : B → ℕ) (g : A → B) (xs : List A) → total (λ (x : A). f (g x)) xs ≡ total f (map g xs)
total_map f g [] = refl
total_map f g (x ∷ xs) = ap (λ n. f (g x) + n) (total_map f g xs)

-- the number left at a handler, and in a world, by the clients and the handlers alone
abbrev core_left : List BlockLog → List ClientState → Core → ℕ
core_left logs cs k =
    3 * total (λ (c : ClientState). places_from logs k.state.number c.inc (mark_at c.id k.state.marks)) cs + lock_left k.state + jobs_left k.state.queues k.out

abbrev all_left : List BlockLog → List ClientState → List Core → ℕ
all_left logs cs ks = total client_work cs + total (core_left logs cs) ks

left_is : (w : World) → left w ≡ all_left w.logs (clients w) (cores w)
left_is w =
    let places : Core → List Party → ℕ = λ k ps. total (λ (p : Party). places_from w.logs k.state.number p.client.inc (mark_at p.client.id k.state.marks)) ps in
    let one : (k : Core) → places k w.parties
    ≡ total (λ (c : ClientState). places_from w.logs k.state.number c.inc (mark_at c.id k.state.marks)) (clients w) =
    λ k. total_map (λ (c : ClientState). places_from w.logs k.state.number c.inc (mark_at c.id k.state.marks)) (λ (p : Party). p.client) w.parties in
    (λ i. total_map client_work (λ (p : Party). p.client) w.parties i
    + total (λ (s : Site). 3 * one s.core i + lock_left s.core.state + jobs_left s.core.state.queues s.core.out) w.sites)
    ∙ ap (λ n. total client_work (clients w) + n) (total_map (core_left w.logs (clients w)) (λ (s : Site). s.core) w.sites)

pub left_alike : (v w : World) → Alike v w → left v ≡ left w
left_alike v w a = left_is v ∙ (λ i. all_left (a.logs i) (a.clients i) (a.cores i)) ∙ sym (left_is w)

clients_alike : (v w : World) → Alike v w → clients_left v ≡ clients_left w
clients_alike v w a =
    total_map client_work (λ (p : Party). p.client) v.parties ∙ ap (total client_work) a.clients
    ∙ sym (total_map client_work (λ (p : Party). p.client) w.parties)

sites_alike : (f : Core → ℕ) (v w : World) → Alike v w → total (λ (s : Site). f s.core) v.sites ≡ total (λ (s : Site). f s.core) w.sites
sites_alike f v w a = total_map f (λ (s : Site). s.core) v.sites ∙ ap (total f) a.cores ∙ sym (total_map f (λ (s : Site). s.core) w.sites)

pub not_less : (v w : World) → Alike v w → Less v w → ⊥
not_less v w a less = by_less less
  where
    c : clients_left v ≡ clients_left w
    c = clients_alike v w a

    r : room_left v ≡ room_left w
    r = sites_alike (λ (k : Core). total mark_room k.state.marks) v w a

    h : work_left v ≡ work_left w
    h = sites_alike (λ (k : Core). runs_left k.state.queues k.out) v w a

    by_less : Less v w → ⊥
    by_less (for_clients l) = absurd (let e = c in omega (arith, l, e))
    by_less (for_room l m) = absurd (let e = r in omega (arith, m, e))
    by_less (for_work l m n) = absurd (let e = h in omega (arith, n, e))

-- ---- each party is there too

found_alike : {A B : Type 0} (f : A → B) (test : B → Bool) (xs ys : List A) (x : A) → map f xs ≡ map f ys → find (λ (z : A). test (f z)) xs ≡ Some x
    → (y : A) × (find (λ (z : A). test (f z)) ys ≡ Some y) × (f y ≡ f x)
found_alike f test (z ∷ zs) (y ∷ ys) x same found =
    let one : f z ≡ f y = cc in
    let rest : map f zs ≡ map f ys = cc in
    by_test (λ t. (if t then Some z else find (λ u. test (f u)) zs) ≡ Some x
    → (u : _) × ((if test (f y) then Some y else find (λ u. test (f u)) ys) ≡ Some u) × (f u ≡ f x))
    (test (f z))
    (λ is e. (y, ap (λ t. if t then Some y else find (λ u. test (f u)) ys) (ap test (sym one) ∙ is), sym one ∙ (let here : z ≡ x = cc in ap f here)))
    (λ is e.
    let g = found_alike f test zs ys x rest e in
    (g.0, ap (λ t. if t then Some y else find (λ u. test (f u)) ys) (ap test (sym one) ∙ is) ∙ g.1, g.2)) found
found_alike f test xs ys x same found = absurd (cc)

pub site_alike : (v w : World) (h : HandlerId) (s : Site) → Alike v w → site_of h v ≡ Some s → (t : Site) × (site_of h w ≡ Some t) × (t.core ≡ s.core)
site_alike v w h s a found = found_alike (λ (x : Site). x.core) (λ (k : Core). same_handler k.state.number h) v.sites w.sites s a.cores found

pub party_alike : (v w : World) (c : ClientId) (p : Party) → Alike v w → party_of c v ≡ Some p → (q : Party) × (party_of c w ≡ Some q) × (q.client ≡ p.client)
party_alike v w c p a found = found_alike (λ (x : Party). x.client) (λ (d : ClientState). same_client d.id c) v.parties w.parties p a.clients found
