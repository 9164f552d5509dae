-- No event of a round adds to what is left, and a calm world stays calm.
use Rattle.scoop_calm.proofs.Names.{◌≡◌, suc, ◌≤◌, ◌⊎◌, inl, inr, true, true≢false, List, [], ◌∷◌, ◌++◌, length, filter, find, not, Option, Some, None, refl}
use Rattle.scoop_calm.proofs.Names.{Unlocking, sym, ap, ◌∙◌, subst, ⊎_elim, arith, length-append, if◌then◌else◌, unwrap_or, option_map, option_map_or, ClientId}
use Rattle.scoop_calm.proofs.Names.{HandlerId, Entry, is_end, EndOnlyLast, same_block, block_decides, Mark, block_of, mark_of, key_found, All-mark_of, has}
use Rattle.scoop_calm.proofs.Names.{World, Site, Party, HandlerLog, BlockLog, number_of, site_of, inc_of, log_of, is_site, is_log_of, is_share_of, handlers_in}
use Rattle.scoop_calm.proofs.Names.{IsReached, by_test, id_found, IsMarkUpto, MarksUpto, IsNamed, ℕ, ◌+◌, ◌-◌, ◌*◌, ◌<◌, ◌||◌, false, map, is_some, Ok, Block}
use Rattle.scoop_calm.proofs.Names.{EndEntry, Message, same_client, same_handler, handler_of, client_of, handler_decides, client_decides, Ran, Core, IsCore}
use Rattle.scoop_calm.proofs.Names.{with_state, HandlerState, Hearing, hear, greeting_mark, Task, ready, job_out, first_task, begun, finished, after}
use Rattle.scoop_calm.proofs.Names.{mark_after, ran_of, task_of, mark_of-after, number-row, grows-row, row, front, ClientState, heard, EndRow, ends_block}
use Rattle.scoop_calm.proofs.Names.{Command, DoEnd, Outcome, command, with_ends, command_row, heard_row, Event, WorldNote, id_of, party_of, set_party, sent_at}
use Rattle.scoop_calm.proofs.Names.{is_party, step, with_site, begun_site, finished_site, heard_site, heard_party, heard_world, with_party, commanded_world}
use Rattle.scoop_calm.proofs.Names.{newest_block, changed_log, ok_is, Gives, Happens, event_happens, site_put, running_is, keeps_row, went_on, PartyFits}
use Rattle.scoop_calm.proofs.Names.{sites_apart, parties_apart, own_site, total, client_work, queue_work, is_later, lock_left, share_left, block_left}
use Rattle.scoop_calm.proofs.Names.{places_from, places_left, mark_at, hold_left, jobs_left, handler_left, site_left, left, Do, sent_tells, Tick, Take, Begin}
use Rattle.scoop_calm.proofs.Names.{Finish, ClientRestart, NodeRestart, ⊤, reached_more, goes_on, out_left, Bool, nat_tests, same_Some, AllByRecursion, Lock}
use Rattle.scoop_calm.proofs.Names.{cut, put_all, IsHeardAt, holder_without, new_entries, IsState, Row, newer_greeting, lock_granted, is_opened, is_freed}
use Rattle.scoop_calm.proofs.Names.{is_taken, mark_of-client, held_holds, is_empty, ReservationState, phase_of, HeardRow, passed_over, is_welcomed, takes_step}
use Rattle.scoop_calm.proofs.Names.{is_acknowledged, is_accepted, ClientNote, end_block, inc_there, IsReachedIn, all_set_site, all_set_party, newer_num}
use Rattle.scoop_calm.proofs.Names.{not_reached, Member, IsIdle, IsFree, Calm, Stage, Locking, Greeting, Idle, is_ended, phase_at, phase_of_block}
use Rattle.scoop_handler.proofs.Basics.{all_found}
use Rattle.scoop_calm.proofs.Everything.{everything, AllFacts}
use Rattle.scoop_calm.proofs.Places.{HasLog, IsKnown, Alike, hears_less, hears_lessens, total_same}
use Rattle.scoop_calm.proofs.Marks.{MarkFits, TakenAs, SiteMarked}
use Rattle.scoop_calm.proofs.Blocks.{party_there, owner}
use Rattle.scoop_calm.proofs.Lists.{found_in, item_there, distinct, map_newer, some_in, sent_member, all_member, none_long}
use Rattle.scoop_model.specs.Step.{with_entry}
use Rattle.scoop_calm.proofs.Clients.{ClientFits, PartyFitsWell}
use Rattle.scoop_calm.proofs.Talk.{ends_less}
use Rattle.scoop_calm.proofs.Moves.{sites_total, parties_total, advance_less, site_found, HasGivenBack, IsSettled}
use Rattle.scoop_calm.proofs.Attending.{Attends, Attended, AtWork, IsOver}

-- -------- Facts about each mark in a reached world: its client is in the world, and its block was reserved for the handler.

-- a log has at most one End
entries_upto : (es : List Entry) → EndOnlyLast es → length es ≤ suc (length (filter (λ (e : Entry). not (is_end e)) es))
entries_upto [] only = omega arith
entries_upto (e ∷ []) only = omega arith
entries_upto (e ∷ f ∷ es) only =
    let upto = entries_upto (f ∷ es) in grind (arith, upto, only)

none_first : (es fs : List Entry) → es ++ fs ≡ [] → length es ≡ 0
none_first [] fs e = refl
none_first (x ∷ xs) fs e = absurd (cc)

module _ (w : World) (h : HandlerId) (k : Mark) (taken : TakenAs (log_of (block_of k) h w) k.received k.ended)
    (only : EndOnlyLast (log_of (block_of k) h w)) where
  abbrev log_in : Option BlockLog → List Entry
  log_in o = unwrap_or (option_map (λ (x : HandlerLog). x.entries) (find (is_share_of h) (option_map_or (λ (l : BlockLog). l.shares) o []))) []

  log_is : (l : BlockLog) → find (is_log_of (block_of k)) w.logs ≡ Some l → (o : Option HandlerLog) → find (is_share_of h) l.shares ≡ o
      → log_of (block_of k) h w ≡ unwrap_or (option_map (λ (x : HandlerLog). x.entries) o) []
  log_is l e o f = ap log_in e ∙ ap (λ p. unwrap_or (option_map (λ (x : HandlerLog). x.entries) p) []) f

  has_log : (l : BlockLog) → find (is_log_of (block_of k)) w.logs ≡ Some l → (x : HandlerLog) → find (is_share_of h) l.shares ≡ Some x → HasLog w.logs h k
  has_log l e x f =
      let is = log_is l e (Some x) f in
      record {
        entries = x;
        logged = record {
          log = l;
          member = found_in (is_log_of (block_of k)) w.logs l e;
          block = key_found (λ (y : BlockLog). y.block) same_block block_decides (block_of k) w.logs l e;
          found = f;
        };
        received =
            let upto = entries_upto x.entries (subst EndOnlyLast is only) in
            let size = λ (es : List Entry). length es in
            omega (arith, length-append taken.taken taken.behind, ap size taken.all, ap size is, upto, taken.count);
      }

  none_taken : log_of (block_of k) h w ≡ [] → k.received ≡ 0
  none_taken none = sym taken.count ∙ none_first taken.taken taken.behind (taken.all ∙ none)

  taken_log : (k.received ≡ 0) ⊎ HasLog w.logs h k
  taken_log = by_log (find (is_log_of (block_of k)) w.logs) refl
    where
      by_share : (l : BlockLog) → find (is_log_of (block_of k)) w.logs ≡ Some l → (o : Option HandlerLog) → find (is_share_of h) l.shares ≡ o
          → (k.received ≡ 0) ⊎ HasLog w.logs h k
      by_share l e None f = inl (none_taken (log_is l e None f))
      by_share l e (Some x) f = inr (has_log l e x f)

      by_log : (o : Option BlockLog) → find (is_log_of (block_of k)) w.logs ≡ o → (k.received ≡ 0) ⊎ HasLog w.logs h k
      by_log None e = inl (none_taken (ap log_in e))
      by_log (Some l) e = by_share l e (find (is_share_of h) l.shares) refl

  named_log : IsNamed w h (block_of k) → HasLog w.logs h k
  named_log n = by_log (find (is_log_of (block_of k)) w.logs) refl n.set
    where
      by_log : (o : Option BlockLog) → find (is_log_of (block_of k)) w.logs ≡ o → option_map handlers_in o ≡ Some n.handlers → HasLog w.logs h k
      by_log None e f = absurd (cc)
      by_log (Some l) e f =
          let same : handlers_in l ≡ n.handlers = cc in
          let there = item_there (λ (y : HandlerLog). y.handler) h l.shares (ap (λ hs. has hs h) same ∙ n.member) in
          has_log l e there.0 there.1

pub known_marks : (w : World) → IsReached w → (h : HandlerId) (s : Site) → site_of h w ≡ Some s → (c : ClientId) (k : Mark)
    → mark_of c s.core.state.marks ≡ Some k → IsKnown w.logs w.parties (number_of s) k
known_marks w r h s here c k found =
    let e = everything w r in
    let marks = s.core.state.marks in
    let fits = All-mark_of (MarkFits w (number_of s) s.ran) c marks k (all_found (SiteMarked w) (is_site h) w.sites s e.background.marked.sites here) found in
    let le = (All-mark_of (IsMarkUpto (inc_of w)) c marks k (all_found (MarksUpto w) (is_site h) w.sites s e.told.1.0.marks here) found).upto in
    let one = fits.inc in
    let there = party_there w k.client (omega (arith, one, le)) in
    let p = there.0 in
    let only = e.background.logging.logs (block_of k) (number_of s) in
    record {
      some = one;
      party = p;
      member = found_in _ w.parties p there.1;
      id = id_found k.client w p there.1;
      upto = omega (arith, le, ap (λ o. option_map_or (λ (q : Party). q.client.inc) o 0) there.1);
      named = ⊎_elim (λ (none : k.num ≡ 0). inl none)
          (λ (n : IsNamed w (number_of s) (block_of k)). inr (named_log w (number_of s) k fits.taken only n)) fits.named;
      taken = taken_log w (number_of s) k fits.taken only;
    }

-- -------- An event without a restart leaves less to do, or leaves the clients and the handlers as they were.

-- ---- what is to run

-- a job that is out is that of a pending entry
busy : (k : Core) → IsCore k → out_left k.out ≤ 2 * total queue_work k.state.queues
busy k is =
    let less = advance_less k.state.queues in let job = is.job in grind (arith, less, job)

some_front : {A B : Type 0} (f : A → B) (o : Option A) (x : B) → option_map f o ≡ Some x → is_some o ≡ true
some_front f None x e = absurd (cc)
some_front f (Some y) x e = refl

-- a ready entry is pending, and no job is out
ready_is : (k : Core) (t : Task) → ready k ≡ Some t → (k.out ≡ false) × (is_some (front k.state.queues) ≡ true)
ready_is k t e =
    by_test (λ b. (if b then None else first_task k) ≡ Some t → (k.out ≡ false) × (is_some (front k.state.queues) ≡ true)) k.out
    (λ out f. absurd (cc))
    (λ out f. (out, some_front (task_of k) (front k.state.queues) t f)) e

out_is : (k : Core) (t : Task) → job_out k ≡ Some t → (k.out ≡ true) × (is_some (front k.state.queues) ≡ true)
out_is k t e =
    by_test (λ b. (if b then first_task k else None) ≡ Some t → (k.out ≡ true) × (is_some (front k.state.queues) ≡ true)) k.out
    (λ out f. (out, some_front (task_of k) (front k.state.queues) t f))
    (λ out f. absurd (cc)) e

begun_less : (k : Core) (t : Task) → ready k ≡ Some t → jobs_left k.state.queues (begun k).out < jobs_left k.state.queues k.out
begun_less k t e =
    let is = ready_is k t e in
    let now : jobs_left k.state.queues (begun k).out ≡ 2 * total queue_work k.state.queues - 1 = (λ i. jobs_left k.state.queues (is.0 i || is_some (e i))) in
    let was : jobs_left k.state.queues k.out ≡ 2 * total queue_work k.state.queues = ap (jobs_left k.state.queues) is.0 ∙ omega arith in
    omega (arith, advance_less k.state.queues is.1, now, was)

-- ---- an entry has run

module _ (logs : List BlockLog) (r : Ran) where
  places_after : (s : HandlerState) (n : HandlerId) (p : Party) → places_from logs n p.client.inc (mark_at (id_of p) (map (mark_after r) s.marks))
      ≡ places_from logs n p.client.inc (mark_at (id_of p) s.marks)
  places_after s n p =
      ap (λ o. places_from logs n p.client.inc (unwrap_or o (greeting_mark (id_of p) 0))) (mark_of-after r (id_of p) s.marks)
      ∙ by_mark (mark_of (id_of p) s.marks)
    where
      by_mark : (o : Option Mark) → places_from logs n p.client.inc (unwrap_or (option_map (mark_after r) o) (greeting_mark (id_of p) 0))
          ≡ places_from logs n p.client.inc (unwrap_or o (greeting_mark (id_of p) 0))
      by_mark None = refl
      by_mark (Some k) = refl

  holds_after : (marks : List Mark) → total hold_left (map (mark_after r) marks) ≡ total hold_left marks
  holds_after [] = refl
  holds_after (k ∷ ks) = ap (λ n. hold_left k + n) (holds_after ks)

finished_less : (logs : List BlockLog) (ps : List Party) (k : Core) (t : Task) → job_out k ≡ Some t
    → handler_left logs ps (finished t k).state (finished t k).out < handler_left logs ps k.state k.out
finished_less logs ps k t e =
    let is = out_is k t e in
    let same = total_same (places_left logs (after t k.state)) (places_left logs k.state) ps (λ p m. places_after logs (ran_of t) k.state k.state.number p) in
    omega (arith, advance_less k.state.queues is.1, same, holds_after logs (ran_of t) k.state.marks, ap (jobs_left k.state.queues) is.0)

-- ---- a block ends

kept_calls : (es : List Entry) → length (filter (λ (e : Entry). not (is_end e)) (es ++ EndEntry ∷ [])) ≡ length (filter (λ (e : Entry). not (is_end e)) es)
kept_calls [] = refl
kept_calls (e ∷ es) =
    let rest = kept_calls es in grind (arith, rest)

share_found : (h : HandlerId) (xs : List HandlerLog) → find (is_share_of h) (map (with_entry EndEntry) xs) ≡ option_map (with_entry EndEntry)
    (find (is_share_of h) xs)
share_found h [] = refl
share_found h (x ∷ xs) =
    let rest = share_found h xs in grind (arith, rest)

module _ (b : Block) (h : HandlerId) (k : Mark) where
  share_same : (c : Block) (x : HandlerLog) → share_left k c (with_entry EndEntry x) ≡ share_left k c x
  share_same c x = ap (λ n. if is_later c k then suc (suc n) else if same_block c (block_of k) then suc n - k.received else 0) (kept_calls x.entries)

  block_same : (l : BlockLog) → block_left h k (changed_log b (with_entry EndEntry) l) ≡ block_left h k l
  block_same l =
      by_test (λ t. block_left h k (if t then record l { shares = map (with_entry EndEntry) l.shares } else l) ≡ block_left h k l) (is_log_of b l)
      (λ _. ap (λ o. option_map_or (share_left k l.block) o 0) (share_found h l.shares) ∙ by_share (find (is_share_of h) l.shares))
      (λ _. refl)
    where
      by_share : (o : Option HandlerLog) → option_map_or (share_left k l.block) (option_map (with_entry EndEntry) o) 0 ≡ option_map_or
          (share_left k l.block) o 0
      by_share None = refl
      by_share (Some x) = share_same l.block x

  blocks_same : (logs : List BlockLog) → total (block_left h k) (map (changed_log b (with_entry EndEntry)) logs) ≡ total (block_left h k) logs
  blocks_same [] = refl
  blocks_same (l ∷ ls) = (λ i. block_same l i + blocks_same ls i)

site_same : (logs : List BlockLog) (b : Block) (ps : List Party) (s : Site)
    → site_left (map (changed_log b (with_entry EndEntry)) logs) ps s ≡ site_left logs ps s
site_same logs b ps s =
    let st = s.core.state in
    let places = total_same (places_left (map (changed_log b (with_entry EndEntry)) logs) st) (places_left logs st) ps
    (λ p m. ap (λ n. (p.client.inc - (mark_at (id_of p) st.marks).inc) + n) (blocks_same b st.number (mark_at (id_of p) st.marks) logs)) in
    ap (λ n. 3 * n + lock_left st + jobs_left st.queues s.core.out) places

ended_lessens : (c d : ClientState) (o : Outcome) → EndRow c o → o ≡ Ok d → ClientFits c → client_work d < client_work c
ended_lessens c d o (ends_block running waits room) e fits =
    let run = running_is c running in
    let less = ends_less c run.reservation run.held run.going waits (fits.block run.reservation run.held).windows.some in
    subst (λ (x : ClientState). client_work x < client_work c) (ok_is (with_ends c) d e) less
ended_lessens c d o row e fits = absurd (cc)

-- ---- each event

-- to send changes nothing; who takes a message has less left, or stays as it was; and all else leaves less
abbrev pub Descends : Event → World → World → Type 0
Descends (Do c x) w v = left v < left w
Descends (Tick c h) w v = Alike v w
Descends (Take i) w v = (left v < left w) ⊎ Alike v w
Descends (Begin h) w v = left v < left w
Descends (Finish h) w v = left v < left w
Descends (ClientRestart c) w v = ⊤
Descends (NodeRestart n) w v = ⊤

pub less_or_alike : (e : Event) (w v : World) → goes_on e ≡ true → Descends e w v → (left v < left w) ⊎ Alike v w
less_or_alike (Tick c h) w v on d = inr d
less_or_alike (Take i) w v on d = d
less_or_alike (ClientRestart c) w v on d = absurd (true≢false (sym on))
less_or_alike (NodeRestart n) w v on d = absurd (true≢false (sym on))
less_or_alike e w v on d = inl d

module _ (w : World) (r : IsReached w) where
  abbrev all : AllFacts w r
  all = everything w r

  site_falls : (t s : Site) → site_of (number_of t) w ≡ Some s → site_left w.logs w.parties t < site_left w.logs w.parties s → left (with_site w t) < left w
  site_falls t s here less = let sum = sites_total w r (site_left w.logs w.parties) t s here in omega (arith, sum, less)

  hears_descend : (i : ℕ) (m : Message) (s : Site) → sent_at i w ≡ Some m → site_of (handler_of m) w ≡ Some s → IsReached
      (heard_world w s (hear s.core.state m))
      → Descends (Take i) w (heard_world w s (hear s.core.state m))
  hears_descend i m s was here vr =
      let now : Hearing = hear s.core.state m in
      let t : Site = heard_site s now in
      let v : World = heard_world w s now in
      let number = number-row s.core.state m now (row s.core.state m) in
      let there : site_of (number_of t) w ≡ Some s = ap (λ j. site_of j w) number ∙ own_site w (handler_of m) s here in
      let put : site_of (number_of t) v ≡ Some t = site_put w t s there in
      let core : IsCore t.core = all_found (λ (x : Site). IsCore x.core) (is_site (number_of t)) v.sites t (everything v vr).background.sound.sites put in
      let is = (all_found (λ (x : Site). IsCore x.core) (is_site (handler_of m)) w.sites s all.background.sound.sites here).state in
      ⊎_elim
      (λ (less : handler_left w.logs w.parties now.0 s.core.out < handler_left w.logs w.parties s.core.state s.core.out). inl (site_falls t s there less))
      (λ (same : now.0 ≡ s.core.state). inr (record {
        cores = map_newer number_of same_handler handler_decides (λ (x : Site). x.core) t s w.sites
            (distinct number_of same_handler handler_decides w.sites (sites_apart w r)) there (ap (λ (x : HandlerState). with_state x s.core) same);
        clients = refl;
        logs = refl;
      }))
      (hears_less w.logs w.parties s.core.state s.core.out is m now (row s.core.state m) number (grows-row s.core.state m now (row s.core.state m))
      (λ c k found. subst (λ j. IsKnown w.logs w.parties j k) number (known_marks v vr (number_of t) t put c k found)) (busy t.core core))

  party_same : (q p : Party) → party_of (id_of q) w ≡ Some p → q.client.inc ≡ p.client.inc → id_of q ≡ id_of p → (s : Site)
      → site_left w.logs (set_party q w.parties) s ≡ site_left w.logs w.parties s
  party_same q p at inc id s =
      let st = s.core.state in
      let own : places_left w.logs st q ≡ places_left w.logs st p = (λ i. places_from w.logs st.number (inc i) (mark_at (id i) st.marks)) in
      let besides = parties_total w r (places_left w.logs st) q p at in
      let same : total (places_left w.logs st) (set_party q w.parties) ≡ total (places_left w.logs st) w.parties = omega (arith, besides, own) in
      ap (λ n. 3 * n + lock_left st + jobs_left st.queues s.core.out) same

  party_falls : (q p : Party) → party_of (id_of q) w ≡ Some p → q.client.inc ≡ p.client.inc → id_of q ≡ id_of p
      → client_work q.client < client_work p.client → left (with_party w q) < left w
  party_falls q p at inc id less =
      let besides = total_same (site_left w.logs (set_party q w.parties)) (site_left w.logs w.parties) w.sites (λ s m. party_same q p at inc id s) in
      omega (arith, parties_total w r (λ (x : Party). client_work x.client) q p at, besides, less)

  notices_descend : (i : ℕ) (m : Message) (p : Party) → sent_at i w ≡ Some m → party_of (client_of m) w ≡ Some p
      → Descends (Take i) w (with_party w (heard_party p (heard p.client m)))
  notices_descend i m p was at =
      let d = heard p.client m in
      let q : Party = heard_party p d in
      let kept = keeps_row w p.client (all_found (PartyFits w) (is_party (client_of m)) w.parties p all.background.ordered.parties at).reservation m d.0 d.1
      (heard_row p.client m) (sent_tells w i m was all.background.ordered.messages) in
      let own : party_of (id_of q) w ≡ Some p = ap (λ c. party_of c w) (kept.id ∙ id_found (client_of m) w p at) ∙ at in
      ⊎_elim
      (λ (less : client_work d.0 < client_work p.client). inl (party_falls q p own kept.inc kept.id less))
      (λ (same : d.0 ≡ p.client). inr (record {
        cores = refl;
        clients = map_newer id_of same_client client_decides (λ (x : Party). x.client) q p w.parties
            (distinct id_of same_client client_decides w.parties (parties_apart w r)) own same;
        logs = refl;
      }))
      (hears_lessens p.client m (all_found PartyFitsWell (is_party (client_of m)) w.parties p all.background.fit at))

  ends_descend : (c : ClientId) (p : Party) (d : ClientState) → party_of c w ≡ Some p → command p.client DoEnd ≡ Ok d → left
      (commanded_world w p DoEnd d) < left w
  ends_descend c p d at is =
      let q : Party = record p { client = d } in
      let kept = went_on w p DoEnd d is (all_found (PartyFits w) (is_party c) w.parties p all.background.ordered.parties at) in
      let own : party_of (id_of q) w ≡ Some p = ap (λ x. party_of x w) (kept.id ∙ id_found c w p at) ∙ at in
      let b = newest_block d in
      let sites = total_same (site_left (map (changed_log b (with_entry EndEntry)) w.logs) (set_party q w.parties)) (site_left w.logs w.parties) w.sites
      (λ s m. site_same w.logs b (set_party q w.parties) s ∙ party_same q p own kept.inc kept.id s) in
      let besides = ended_lessens p.client d _ (command_row p.client DoEnd) is (all_found PartyFitsWell (is_party c) w.parties p all.background.fit at) in
      omega (arith, parties_total w r (λ (x : Party). client_work x.client) q p own, sites, besides)

  -- where it isn't refused
  abbrev Ordinary : Event → World → WorldNote → Type 0
  Ordinary e v told = IsReached v → goes_on e ≡ true → Descends e w v

  commands_descend : (c : ClientId) (p : Party) (x : Command) (d : ClientState) → party_of c w ≡ Some p → command p.client x ≡ Ok d
      → goes_on (Do c x) ≡ true → left (commanded_world w p x d) < left w
  commands_descend c p DoEnd d at is on = ends_descend c p d at is
  commands_descend c p x d at is on = absurd (true≢false (sym on))

  descends : Happens Ordinary w
  descends = record {
    commands = λ c p x d at is vr on. commands_descend c p x d at is on;
    sends = λ c p h s at here vr on. record { cores = refl; clients = refl; logs = refl };
    hears = λ i m s was goes here vr on. hears_descend i m s was here vr;
    notices = λ i m p was goes at vr on. notices_descend i m p was at;
    begins = λ h s t here is vr on.
        (let jobs = begun_less s.core t is in site_falls (begun_site s) s (own_site w h s here) (omega (arith, jobs)));
    finishes = λ h s t here is vr on. site_falls (finished_site s t) s (own_site w h s here) (finished_less w.logs w.parties s.core t is);
    restarts = λ c p at room vr on. tt;
    reopens = λ n vr on. tt;
  }

  pub event_descends : (e : Event) (v : World × WorldNote) → goes_on e ≡ true → step w e ≡ Ok v → Descends e w v.0
  event_descends e v on is =
      let gives : Gives (Ordinary e) (Ok v) = subst (Gives (Ordinary e)) is (event_happens Ordinary w descends e) in
      gives (reached_more w e v r is) on

-- -------- A calm world stays calm, unless a party restarts or a client takes a new command. Idle clients owe nothing, and the
-- blocks of old messages are over at their handlers.

-- ---- a client

-- an idle client is welcomed, and has no block
pub record HasNothing (c : ClientState) : Type 0 where
  pub welcome : is_empty c.unwelcomed ≡ true
  pub none : c.reservation ≡ None

pub has_nothing : (c : ClientState) → phase_of c ≡ Idle → HasNothing c
has_nothing c idle =
    by_test (λ t. (if t then phase_of_block c.windows c.reservation else Greeting) ≡ Idle → HasNothing c) (is_empty c.unwelcomed)
    (λ is f. record { welcome = is; none = by_block c.reservation f })
    (λ is f. absurd (cc)) idle
  where
    by_stage : (t : Bool) (stage : Stage) → phase_at stage t ≡ Idle → ⊥
    by_stage t Locking f = cc
    by_stage true Unlocking f = cc
    by_stage t stage f = cc

    by_block : (o : Option ReservationState) → phase_of_block c.windows o ≡ Idle → o ≡ None
    by_block None f = refl
    by_block (Some r) f = absurd (by_stage (is_ended c.windows) r.stage f)

-- an idle client passes over what it hears
quiet_row : (c : ClientState) (m : Message) (d : ClientState) (note : ClientNote) → HeardRow c m d note → HasNothing c → d ≡ c
quiet_row c m d note (passed_over n) idle = refl
quiet_row c m d note (is_welcomed h left) idle = absurd (true≢false (sym idle.welcome ∙ some_in c.unwelcomed h left))
quiet_row c m d note (takes_step n r held) idle = absurd (let e : None ≡ Some r = sym idle.none ∙ held in cc)
quiet_row c m d note (is_acknowledged h n r l held opened window new) idle = absurd (let e : None ≡ Some r = sym idle.none ∙ held in cc)
quiet_row c m d note (is_accepted h n a r held opened waits) idle = absurd (let e : None ≡ Some r = sym idle.none ∙ held in cc)

stays_idle : (p q : Party) → q.client ≡ p.client → IsIdle p → IsIdle q
stays_idle p q same idle = record { idle = ap phase_of same ∙ idle.idle }

-- ---- a handler

module _ (w : World) (r : IsReached w) (calm : Calm w) where
  abbrev facts : AllFacts w r
  facts = everything w r

  idle_at : (p : Party) → Member p w.parties → HasNothing p.client
  idle_at p m = has_nothing p.client (all_member IsIdle w.parties p calm.parties m).idle

  settled : (ps : List Party) → ((p : Party) → Member p ps → Member p w.parties) → AllByRecursion IsSettled ps
  settled [] within = tt
  settled (p ∷ ps) within =
      let n = idle_at p (within p (inl refl)) in
      let few : length p.client.unwelcomed ≤ 0 = grind (arith, nat_tests, n.welcome) in (
        record { welcome = record { left = none_long p.client.unwelcomed few }; back = subst HasGivenBack (sym n.none) tt },
        settled ps (λ q m. within q (inr m)),
      )

  -- a Lock that was sent is of a block that is over
  never_granted : (s : Site) → Member s w.sites → (b : Block) (k : Mark) → Member (Lock (number_of s) b) w.sent → IsHeardAt s.core.state b k → k.num < b.num → ⊥
  never_granted s m b k sent at newer =
      let client : k.client ≡ b.client = mark_of-client b.client s.core.state.marks k at.found in
      let own : mark_of k.client s.core.state.marks ≡ Some k = ap (λ c. mark_of c s.core.state.marks) client ∙ at.found in
      let o = owner w r facts (settled w.parties (λ p n. n)) s m k own in
      let id : id_of o.party ≡ b.client = sym o.mark.client ∙ ap (λ (x : Mark). x.client) o.own ∙ client in
      let a : Attended w (number_of s) b = all_member (Attends w) w.sent (Lock (number_of s) b) facts.attending.messages sent in
      ⊎_elim
      (λ (older : b.inc < inc_of w b.client). absurd
      (omega (arith, older, ap (inc_of w) (sym id) ∙ inc_there w (id_of o.party) o.party o.at, ap (λ (x : Mark). x.inc) (sym o.own) ∙ o.mark.inc, at.inc)))
      (λ (rest : IsOver w (number_of s) b ⊎ AtWork w (number_of s) b).
      ⊎_elim
      (λ (over : IsOver w (number_of s) b).
      let one : over.site ≡ s = same_Some over.site s (sym over.found ∙ site_found w r s m) in
      not_reached s.core.state.marks b k at.found (newer_num b k at.inc newer)
      (subst (λ (x : Site). IsReachedIn x.core.state.marks b) one over.so.reached))
      (λ (work : AtWork w (number_of s) b).
      let n = idle_at work.party (found_in _ w.parties work.party work.at) in
      absurd (let e : None ≡ Some work.goes.reservation = sym n.none ∙ work.goes.held in cc)) rest) a

  free_row : (s : Site) → Member s w.sites → IsState s.core.state → IsFree s → (m : Message) → Member m w.sent → (h : Hearing) → Row s.core.state m h → IsFree
      (heard_site s h)
  free_row s n is free m sent h (newer_greeting x c inc k here found newer) = record {
    holder = ap (holder_without c) free.holder;
    queues = ap (cut (block_of k)) free.queues;
    here = free.here;
  }
  free_row s n is free m sent h (lock_granted x b k here at newer unheld clear) =
      absurd (never_granted s n b k (subst (λ j. Member (Lock j b) w.sent) here sent) at newer)
  free_row s n is free m sent h (is_opened x b k here at same held room) =
      absurd (let e : None ≡ Some b = sym free.holder ∙ held_holds s.core.state b k is at same held in cc)
  free_row s n is free m sent h (is_freed x b k here at same holds) = record { holder = refl; queues = free.queues; here = free.here }
  free_row s n is free m sent h (is_taken x b i es k here at next on room) =
      record { holder = free.holder; queues = ap (put_all b (new_entries i es k)) free.queues; here = free.here }
  free_row s n is free m sent h other = record { holder = free.holder; queues = free.queues; here = free.here }

  -- ---- each event

  abbrev Stays : Event → World → WorldNote → Type 0
  Stays e v told = goes_on e ≡ true → Calm v

  commands_stay : (c : ClientId) (p : Party) (x : Command) (d : ClientState) → party_of c w ≡ Some p → command p.client x ≡ Ok d
      → goes_on (Do c x) ≡ true → Calm (commanded_world w p x d)
  commands_stay c p DoEnd d at is on =
      let idle = (all_found IsIdle (is_party c) w.parties p calm.parties at).idle in
      let e = sym is ∙ ap (end_block p.client) idle in
      absurd (cc)
  commands_stay c p x d at is on = absurd (true≢false (sym on))

  stays_calm : Happens Stays w
  stays_calm = record {
    commands = λ c p x d at is on. commands_stay c p x d at is on;
    sends = λ c p h s at here on. record { sites = calm.sites; parties = calm.parties };
    hears = λ i m s was goes here on.
        (let is = (all_found (λ (x : Site). IsCore x.core) (is_site (handler_of m)) w.sites s facts.background.sound.sites here).state in
        let free = all_found IsFree (is_site (handler_of m)) w.sites s calm.sites here in
        let now = free_row s (found_in _ w.sites s here) is free m (sent_member w i m was) (hear s.core.state m) (row s.core.state m) in
        record { sites = all_set_site IsFree IsFree (heard_site s (hear s.core.state m)) w.sites now (λ x f. f) calm.sites; parties = calm.parties });
    notices = λ i m p was goes at on.
        (let d = heard p.client m in
        let idle = all_found IsIdle (is_party (client_of m)) w.parties p calm.parties at in
        let same = quiet_row p.client m d.0 d.1 (heard_row p.client m) (has_nothing p.client idle.idle) in
        record {
          sites = calm.sites;
          parties = all_set_party IsIdle IsIdle (heard_party p d) w.parties (stays_idle p (heard_party p d) same idle) (λ x other f. f) calm.parties;
        });
    begins = λ h s t here is on. absurd
        (let free = all_found IsFree (is_site h) w.sites s calm.sites here in
        let none : ready s.core ≡ None =
        (λ i. if free.here i then None else option_map (task_of s.core) (front (free.queues i))) in
        let e = sym none ∙ is in cc);
    finishes = λ h s t here is on. absurd
        (let free = all_found IsFree (is_site h) w.sites s calm.sites here in
        let none : job_out s.core ≡ None = (λ i. if free.here i then first_task s.core else None) in
        let e = sym none ∙ is in cc);
    restarts = λ c p at room on. absurd (true≢false (sym on));
    reopens = λ n on. absurd (true≢false (sym on));
  }

pub calm_stays : (w : World) → IsReached w → Calm w → (e : Event) (v : World × WorldNote) → goes_on e ≡ true → step w e ≡ Ok v → Calm v.0
calm_stays w r calm e v on is =
    let gives : Gives (Stays w r calm e) (Ok v) = subst (Gives (Stays w r calm e)) is (event_happens (Stays w r calm) w (stays_calm w r calm) e) in
    gives on
