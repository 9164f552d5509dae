-- All facts of a reached world. One of them is that clients attend to their blocks, and every event keeps it. For that
-- the other layers say what a client has to know of its handlers and messages.
use Rattle.scoop_calm.proofs.Names.{reopened, ◌≡◌, ℕ, ◌≤◌, ◌==◌, ◌&&◌, ◌||◌, not, Bool, true, false, true≢false, List, [], ◌∷◌, ◌++◌, length, Option, Some}
use Rattle.scoop_calm.proofs.Names.{opens_knowing, None, refl, sym, ap, ◌∙◌, subst, arith, length-append, append-nil, and_parts, ⊤, and-false, Block, HandlerId}
use Rattle.scoop_calm.proofs.Names.{Entry, Message, Hello, Welcome, Lock, Locked, Busy, Open, Opened, Unlock, Unlocked, Log, Logged, Answer, ends, Mark}
use Rattle.scoop_calm.proofs.Names.{MarkStage, AtOpen, AtShut, is_open, block_of, fresh_mark, mark_of, HandlerState, IsState, is_holder, Hearing, IsHeardAt}
use Rattle.scoop_calm.proofs.Names.{Row, unlock_of_a_block_never_held, is_freed, repeated_unlock, is_answered, already_received, is_taken, All-mark_of}
use Rattle.scoop_calm.proofs.Names.{mark_of-set_mark_own, holder_is_newest, holder_from_test, grows-row, has, ReservationState, WindowState, is_over, window_of}
use Rattle.scoop_calm.proofs.Names.{all_over, World, Site, number_of, is_site, has_block, log_of, greatest_count, number_found, IsReachedIn, upto_itself}
use Rattle.scoop_calm.proofs.Names.{SiteFits, Ordered, all_found, NoOpen, IsMarkOpened, SiteOpened, Openings, left_has, MarkTold, SiteTaped, Taped, none_behind}
use Rattle.scoop_calm.proofs.Names.{◌⊎◌, inl, inr, ◌+◌, ◌<◌, map, find, ⊎_elim, if◌then◌else◌, option_to_list, AllByRecursion, option_map_or, All-contains}
use Rattle.scoop_calm.proofs.Names.{All-from_recursion, ClientId, ObjectAnswer, handler_of, client_of, Ran, IsCore, hear, row, number-row, due, heard, reserves}
use Rattle.scoop_calm.proofs.Names.{logs, heard_row, Party, BlockLog, id_of, is_party, site_of, party_of, set_site, set_party, sent_at, ran_at, Placement}
use Rattle.scoop_calm.proofs.Names.{Newcomer, opening, newest_block, commanded_world, with_sent, heard_site, heard_world, heard_party, begun_site}
use Rattle.scoop_calm.proofs.Names.{finished_site, restarted_party, HasRun, numbered, untold, inc_of, Changes, by_party, site_put, id_found, Sound}
use Rattle.scoop_calm.proofs.Names.{sent_all, PartyFits, all_pushed, sent_tells, keeps_row, went_on as goes_on, WindowsFit, PartyLogs, Logging, window_handler}
use Rattle.scoop_calm.proofs.Names.{found_has, own_site, StageOpened, unlocking_is, none_reserved, TellsAnswer, Answering, Slot, SlotWhole, Member, Run}
use Rattle.scoop_calm.proofs.Names.{IsReached, steps_kept, both_kept, AreApart, ToldMore, KnownHandlers, Knowing, knowing_kept, known_by}
use Rattle.scoop_model.proofs.Order.Holding.{reached_more}
use Rattle.scoop_model.proofs.Standing.Facts.{Standing}
use Rattle.scoop_calm.proofs.Lists.{some_if_ends, none_long, item_there, sent_member, lowest_has}
use Rattle.scoop_calm.proofs.Marks.{MarkFits, SiteMarked, Marked, IsReleasedIn, IsOverIn, over-row, released-row, over-after, released-after, marked_kept}
use Rattle.scoop_calm.proofs.Marks.{opens_marked, slots_all, ran_all}
use Rattle.scoop_calm.proofs.Attending.{IsOver, IsReleased, WindowsTold, at_set, at_anew, AskedAt, Goes, Attended, Attends, PartyAttends, Attending, Onto}
use Rattle.scoop_calm.proofs.Attending.{attends_more, messages_more, client_more, counts_more, told_count, work_set, parties_set, Around, heard_follows}
use Rattle.scoop_calm.proofs.Attending.{command_follows}
use Rattle.scoop_reserve.specs.Due as reserve
use Rattle.scoop_model.proofs.Tape.Slots.{ran_of}
use Rattle.scoop_calm.proofs.Clients.{ClientFits, PartyFitsWell, AllFit, fit_kept, opens_fit}
use Rattle.std.proofs.lemmas.Bool.{false_from_ne_true}
use Rattle.scoop_model.proofs.Ready.Runs as model
use Rattle.scoop_model.proofs.Moves.{Sends, sends_lock, sends_log, sends}

-- -------- Facts about a client that leaves its block, and about replies. A block that never sent Open is open at no handler. So
-- it is over once its lock is given back. A block whose windows are over was received up to its End at each of its
-- handlers. So it is over too. The handler's own replies show that a lock is given back.

-- ---- a block without its lock is over, once nothing is open

open_not : (e : Bool) (stage : MarkStage) → (stage ≡ AtOpen → ⊥) → (is_open stage && e) ≡ false
open_not e AtOpen off = absurd (off refl)
open_not e stage off = refl

pub over_if : (s : HandlerState) (b : Block) → IsReleasedIn s b
    → ((k : Mark) → mark_of b.client s.marks ≡ Some k → block_of k ≡ b → (is_open k.stage && not k.ended) ≡ false) → IsOverIn s b
over_if s b r shut = record {
  reached = r.reached;
  finished = λ k found is.
      let free : is_holder s.holder (block_of k) ≡ false =
      false_from_ne_true (is_holder s.holder (block_of k)) (λ e. r.free (holder_from_test s.holder (block_of k) e ∙ ap Some is)) in
      ap (λ t. t || (is_open k.stage && not k.ended)) free ∙ shut k found is;
}

-- ---- a block that was given up

module _ (w : World) (o : Ordered w) (openings : Openings w) (standing : Standing w) where
  -- no block of which no Open was sent is open anywhere
  never_open : (s : Site) → SiteFits w.joint s → SiteOpened w s → (b : Block) → NoOpen w b → (k : Mark) → IsMarkOpened s.opened k → block_of k ≡ b
      → k.stage ≡ AtOpen → ⊥
  never_open s fits f b none k m is at =
      let there : has_block s.opened b ≡ true = subst (λ y. has_block s.opened y ≡ true) is (m.opened at) in
      true≢false (sym (standing.joint b (left_has fits.left b there)) ∙ none)

  pub over_given : (b : Block) → NoOpen w b → (h : HandlerId) → IsReleased w h b → IsOver w h b
  over_given b none h a =
      let s = a.site in
      let f = all_found (SiteOpened w) (is_site h) w.sites s openings.sites a.found in
      record {
        site = s;
        found = a.found;
        so = over_if s.core.state b a.so
            (λ k found is. open_not (not k.ended) k.stage (never_open s (all_found (SiteFits w.joint) (is_site h) w.sites s o.sites a.found) f b none k
            (All-mark_of (IsMarkOpened s.opened) b.client s.core.state.marks k f.marks found) is));
      }

-- ---- a block that has ended

over_at : (ls : List WindowState) (h : HandlerId) (l : WindowState) → all_over ls ≡ true → window_of h ls ≡ Some l → is_over l ≡ true
over_at [] h l all found = absurd (cc)
over_at (x ∷ xs) h l all found = let rest = over_at xs h l in grind (arith, rest)

module _ (w : World) (marked : Marked w) (tape : Taped w) where
  pub over_ended : (r : ReservationState) (ls : List WindowState) → WindowsTold w r ls → all_over ls ≡ true → (h : HandlerId) → has r.handlers h ≡ true
      → IsOver w h r.block
  over_ended r ls told over h named =
      let there = item_there (λ (y : WindowState). y.handler) h ls (ap (λ hs. has hs h) told.handlers ∙ named) in
      let l = there.0 in
      let fits = told.fits h l there.1 in
      let is = and_parts l.ended (length l.unacked == 0) (over_at ls h l over there.1) in
      let log : List Entry = log_of r.block h w in
      let none = none_behind l.unacked is.1 in
      let whole : fits.acknowledged ≡ log = sym (append-nil fits.acknowledged) ∙ ap (λ es. fits.acknowledged ++ es) (sym none) ∙ fits.all in
      let log_ends : ends log ≡ true = sym fits.ended ∙ is.0 in
      let long : length fits.acknowledged ≡ length log = ap length whole in
      let count = fits.count in
      let a = told.released h l there.1 (omega (arith, some_if_ends log log_ends, long, count)) in
      let s = a.site in
      let number : number_of s ≡ h = number_found h w s a.found in
      let m = all_found (SiteMarked w) (is_site h) w.sites s marked.sites a.found in
      let t = all_found (SiteTaped w) (is_site h) w.sites s tape a.found in
      record {
        site = s;
        found = a.found;
        so = over_if s.core.state r.block a.so (λ k found same.
            let f = (All-mark_of (MarkFits w (number_of s) s.ran) r.block.client s.core.state.marks k m found).taken in
            let received = (All-mark_of (MarkTold w.sent (number_of s)) r.block.client s.core.state.marks k t.told.each found).received in
            let here : f.taken ++ f.behind ≡ log = f.all ∙ (λ i. log_of (same i) (number i) w) in
            let at_least : l.acked ≤ k.received = subst (λ (n : ℕ). l.acked ≤ n) ((λ i. greatest_count (sym number i) (sym same i) w.sent) ∙ received)
            (told.counts h l there.1) in
            let rest : f.behind ≡ [] = none_long f.behind (omega (arith, ap length here, length-append f.taken f.behind, at_least, f.count, long, count)) in
            let all : f.taken ≡ log = sym (append-nil f.taken) ∙ ap (λ es. f.taken ++ es) (sym rest) ∙ here in
            let ended : k.ended ≡ true = sym f.ended ∙ ap ends all ∙ log_ends in
            ap (λ e. is_open k.stage && not e) ended ∙ and-false (is_open k.stage));
      }

-- ---- what replies tell

-- the message is a Log of the block
pub record IsLogTo (m : Message) (x : HandlerId) (b : Block) : Type 0 where
  pub number : ℕ
  pub entries : List Entry
  pub is : m ≡ Log x b number entries

abbrev pub TellsReleased : HandlerState → Message → Option Message → Type 0
TellsReleased t m None = ⊤
TellsReleased t m (Some (Unlocked x b)) = (x ≡ t.number) × IsReleasedIn t b
TellsReleased t m (Some (Logged x b n)) = IsLogTo m x b
TellsReleased t m (Some (Answer x b n a)) = IsLogTo m x b
TellsReleased t m (Some (Hello x c inc)) = ⊥
TellsReleased t m (Some (Welcome x c inc)) = ⊤
TellsReleased t m (Some (Lock x b)) = ⊥
TellsReleased t m (Some (Locked x b)) = ⊤
TellsReleased t m (Some (Busy x b)) = ⊤
TellsReleased t m (Some (Open x b)) = ⊥
TellsReleased t m (Some (Opened x b)) = ⊤
TellsReleased t m (Some (Unlock x b)) = ⊥
TellsReleased t m (Some (Log x b n es)) = ⊥

at_block : (s : HandlerState) (b : Block) (k : Mark) → IsHeardAt s b k → k.num ≡ b.num → IsReachedIn s.marks b
at_block s b k at same = record { mark = k; found = at.found; upto = (let i = at.inc in record { inc = omega (arith, i); num = λ e. omega (arith, same) }) }

log_here : (s : HandlerState) (x : HandlerId) (b : Block) (n : ℕ) (es : List Entry) → x ≡ s.number → IsLogTo (Log x b n es) s.number b
log_here s x b n es here = record { number = n; entries = es; is = ap (λ y. Log y b n es) here }

pub released-reply : (s : HandlerState) (m : Message) (h : Hearing) → Row s m h → IsState s → TellsReleased h.0 m h.1.reply
released-reply s m h (unlock_of_a_block_never_held x b k here at new clear) is = (
  refl,
  record {
    reached = record { mark = fresh_mark b AtShut; found = mark_of-set_mark_own (fresh_mark b AtShut) k s.marks at.found; upto = upto_itself b.inc b.num };
    free = λ e.
        absurd (omega (arith, ap (λ (y : Block). y.num) (holder_is_newest s b k is at.found e), new));
  },
)
released-reply s m h (is_freed x b k here at same holds) is = (
  refl,
  record { reached = reached_more s.marks _ b (grows-row s m h (is_freed x b k here at same holds)) (at_block s b k at same); free = λ e. cc },
)
released-reply s m h (repeated_unlock x b k here at same free) is = (refl, record { reached = at_block s b k at same; free = free })
released-reply s m h (is_answered x b n es k a here at before kept) is = log_here s x b n es here
released-reply s m h (already_received x b n es k here at before none) is = log_here s x b n es here
released-reply s m h (is_taken x b n es k here at next goes_on room) is = log_here s x b n es here
released-reply s m h r is = tt

-- -------- Every event keeps that clients attend to their blocks. For a client that hears or takes a command, `AttendingClients`
-- has it, from the other layers' facts about the world around it. A Lock that a client sends is of a block that the
-- client is at. A handler that goes on stays done with the blocks that it is done with.

-- all that is so of a world besides
pub record Background (w : World) : Type 0 where
  pub ordered : Ordered w
  pub sound : Sound w
  pub logging : Logging w
  pub openings : Openings w
  pub standing : Standing w
  pub taped : Taped w
  pub answering : Answering w
  pub marked : Marked w
  pub fit : AllFit w

-- ---- an answer tells of entries that were received

module _ (ms : List Message) (h : HandlerId) where
  abbrev IsCounted : Block × ℕ × Entry → Type 0
  IsCounted u = u.1 ≤ greatest_count h u.0 ms

  numbered_counted : (b : Block) (n : ℕ) (es : List Entry) → n + length es ≤ greatest_count h b ms + 1 → AllByRecursion IsCounted (numbered b n es)
  numbered_counted b n [] le = tt
  numbered_counted b n (e ∷ es) le = (omega (arith, le), numbered_counted b (n + 1) es (omega (arith, le)))

  slots_counted : (marks : _) (ss : List Slot) → AllByRecursion (SlotWhole ms h marks) ss → AllByRecursion IsCounted (ran_of ss)
  slots_counted marks = slots_all IsCounted (SlotWhole ms h marks) (λ t g. numbered_counted t.block 1 t.ran (omega (arith, g.received)))

  has_counted : (rs : List Ran) → AllByRecursion (λ (r : Ran). IsCounted (untold r)) rs → (b : Block) (n : ℕ) (a : ObjectAnswer) → HasRun rs b n a
      → n ≤ greatest_count h b ms
  has_counted rs all b n a has =
      let P : Ran → Type 0 = λ r. r.number ≤ greatest_count h r.block ms in
      omega (arith, All-contains P rs has.ran (All-from_recursion P rs all) has.at, has.number, ap (λ y. greatest_count h y ms) has.block)

pub answer_counted : (w : World) → Taped w → (h : HandlerId) (b : Block) (n : ℕ) (a : ObjectAnswer) → HasRun (ran_at h w) b n a → n ≤ greatest_count h b w.sent
answer_counted w tape h b n a has = at (site_of h w) refl has
  where
    at : (o : Option Site) → site_of h w ≡ o → HasRun (option_map_or (λ s. s.ran) o []) b n a → n ≤ greatest_count h b w.sent
    at None e has = has_counted w.sent h [] tt b n a has
    at (Some s) e has =
        let t = all_found (SiteTaped w) (is_site h) w.sites s tape e in
        let number = number_found h w s e in
        has_counted w.sent h s.ran
        (ran_all (IsCounted w.sent h) s.ran (subst (AllByRecursion (IsCounted w.sent h)) (sym t.tape.ran)
        (slots_counted w.sent h s.core.state.marks t.slots (subst (λ j. AllByRecursion (SlotWhole w.sent j s.core.state.marks) t.slots) number t.whole))))
        b n a has

-- ---- what a client hears

around : (w : World) → Background w → (k : ℕ) (m : Message) (p : Party) → sent_at k w ≡ Some m → party_of (client_of m) w ≡ Some p → Around w p.client m
around w g k m p was at = record {
  windows = λ r held. (all_found (PartyLogs w) (is_party (client_of m)) w.parties p g.logging.parties at).block r held;
  counted = λ h b n e. told_count h b n w.sent (subst (λ x. Member x w.sent) e (sent_member w k m was));
  answered = λ h b n a e. answer_counted w g.taped h b n a (subst (TellsAnswer w) e (sent_all w k m was (TellsAnswer w) g.answering.messages));
  given_over = λ r held giving h a.
      let stage = (g.openings.parties (client_of m) p at r held).stage in
      over_given w g.ordered g.openings g.standing r.block (subst (StageOpened w r) giving stage) h a;
  ends_over = λ r ls told over h named. over_ended w g.marked g.taped r ls told over h named;
}

-- ---- what a client sends

none_left : (t : Bool) (n : Message) → (if t then Some n else None) ≡ None → t ≡ false
none_left true n e = absurd (cc)
none_left false n e = refl

due_attends : (w : World) (c : ClientId) (p : Party) (h : HandlerId) → party_of c w ≡ Some p → PartyAttends w p.client → ClientFits p.client
    → ((r : ReservationState) → p.client.reservation ≡ Some r → WindowsFit w p.client r) → (m : Message) → Sends p.client h m → Attends w m
due_attends w c p h at f fits windows m (sends_lock r held stage low) =
    let own : r.block.client ≡ c = ap (λ (y : Block). y.client) (windows r held).block ∙ id_found c w p at in
    let within = (fits.block r held).reserves.within in
    inr (inr (record {
      party = p;
      at = ap (λ d. party_of d w) own ∙ at;
      goes = record { reservation = r; held = held; block = refl; asked = subst (AskedAt r h) (sym stage) (within h (lowest_has h r.left low), inr low) };
    }))
due_attends w c p h at f fits windows m (sends_log r l held free opened window some) =
    let stage = unlocking_is r.stage opened in
    let gone : has r.left h ≡ false = none_left (has r.left h) (Unlock h r.block) (sym (ap (reserve.due_in r h) stage) ∙ free) in
    let named : has r.handlers h ≡ true = ap (λ hs. has hs h) (sym (windows r held).handlers)
    ∙ found_has (λ (y : WindowState). y.handler) h p.client.windows l window in
    subst (λ j. IsReleased w j r.block) (sym (window_handler h p.client.windows l window)) ((f r held).unlocked stage h named gone)
due_attends w c p h at f fits windows m s = tt

-- ---- one client changes, and nothing is sent

-- a client that is put in the place of its own is found there
pub party_put : (w : World) (c : ClientId) (p q : Party) → party_of c w ≡ Some p → id_of q ≡ id_of p → find (is_party (id_of q))
    (set_party q w.parties) ≡ Some q
party_put w c p q at same =
    by_party (λ o. o ≡ Some q) w q p (id_of q) (ap (λ d. party_of d w) (same ∙ id_found c w p at) ∙ at) (λ is. refl) (λ apart. absurd (apart refl))

module _ (w : World) (i : Attending w) (c : ClientId) (p q : Party) (at : party_of c w ≡ Some p) (same : id_of q ≡ id_of p) (ls : List BlockLog)
    (later : p.client.inc ≤ q.client.inc) (block : (r : ReservationState) → p.client.reservation ≡ Some r → r.block ≡ newest_block p.client)
    (own : (h : HandlerId) (b : Block) → Goes p.client h b → (IsOver w h b ⊎ Goes q.client h b) ⊎ (p.client.inc < q.client.inc)) where
  abbrev pub next_world : World
  next_world = record w { parties = set_party q w.parties; logs = ls }

  own_put : find (is_party (id_of q)) (set_party q w.parties) ≡ Some q
  own_put = party_put w c p q at same

  incs_more : (d : ClientId) → inc_of w d ≤ inc_of next_world d
  incs_more d =
      by_party (λ o. inc_of w d ≤ option_map_or (λ (y : Party). y.client.inc) o 0) w q p d (ap (λ e. party_of e w) (same ∙ id_found c w p at) ∙ at)
      (λ is.
      let there : party_of d w ≡ Some p = ap (λ e. party_of e w) (sym is ∙ same ∙ id_found c w p at) ∙ at in
      subst (λ o. option_map_or (λ (y : Party). y.client.inc) o 0 ≤ q.client.inc) (sym there) later)
      (λ apart. omega arith)

  own_goes : (h : HandlerId) (b : Block) → Goes p.client h b → Attended next_world h b
  own_goes h b g =
      let is : newest_block p.client ≡ b = sym (block g.reservation g.held) ∙ g.block in
      let client : b.client ≡ id_of q = sym (ap (λ (y : Block). y.client) is) ∙ sym same in
      let there : party_of b.client next_world ≡ Some q = ap (λ d. find (is_party d) (set_party q w.parties)) client ∙ own_put in
      ⊎_elim
      (λ (e : IsOver w h b ⊎ Goes q.client h b). ⊎_elim (λ (o : IsOver w h b). inr (inl o))
      (λ (n : Goes q.client h b). inr (inr (record { party = q; at = there; goes = n }))) e)
      (λ (older : p.client.inc < q.client.inc).
      inl (omega (arith, older, ap (λ (y : Block). y.inc) is, ap (λ o. option_map_or (λ (y : Party). y.client.inc) o 0) there)))
      (own h b g)

  onto_next : Onto w next_world
  onto_next = record {
    over = λ h b o. o;
    released = λ h b o. o;
    counts = λ h b. omega arith;
    incs = incs_more;
    work = work_set w next_world c p q at same refl own_goes;
  }

  next_attends : PartyAttends w q.client → Attending next_world
  next_attends f = record {
    messages = messages_more w next_world onto_next w.sent i.messages;
    parties = parties_set w next_world c p q at same refl (client_more w next_world onto_next q.client f) (client_more w next_world onto_next) i.parties;
  }

-- ---- one site changes

-- a world in which sites go on, and nothing is sent
module _ (w : World) (i : Attending w) (ss : List Site) where
  abbrev site_world : World
  site_world = record w { sites = ss }

  sites_attend : ((h : HandlerId) (b : Block) → IsOver w h b → IsOver site_world h b)
      → ((h : HandlerId) (b : Block) → IsReleased w h b → IsReleased site_world h b) → Attending site_world
  sites_attend over released =
      let onto : Onto w site_world = record {
        over = over;
        released = released;
        counts = λ h b. omega arith;
        incs = λ c. omega arith;
        work = λ h b a. inr (inr (record { party = a.party; at = a.at; goes = a.goes }));
      } in
      record { messages = messages_more w site_world onto w.sent i.messages; parties = λ c p at. client_more w site_world onto p.client (i.parties c p at) }

module _ (w : World) (g : Background w) (i : Attending w) (k : ℕ) (m : Message) (s : Site) (was : sent_at k w ≡ Some m)
    (found : site_of (handler_of m) w ≡ Some s) where
  abbrev now : Hearing
  now = hear s.core.state m

  abbrev site_now : Site
  site_now = heard_site s now

  abbrev heard_now : World
  heard_now = heard_world w s now

  still_here : site_of (number_of site_now) w ≡ Some s
  still_here = subst (λ j. site_of j w ≡ Some s) (sym (number-row s.core.state m now (row s.core.state m))) (own_site w (handler_of m) s found)

  onto_heard : Onto w heard_now
  onto_heard = record {
    over = λ h b o. at_set (λ st. IsOverIn st b) w site_now s still_here
        (over-row s.core.state m now (row s.core.state m) (all_found (λ (x : Site). IsCore x.core) (is_site (handler_of m)) w.sites s g.sound.sites found).state
        b) h o;
    released = λ h b o. at_set (λ st. IsReleasedIn st b) w site_now s still_here (released-row s.core.state m now (row s.core.state m) b) h o;
    counts = λ h b. counts_more h b w.sent (option_to_list now.1.reply);
    incs = λ c. omega arith;
    work = λ h b a. inr (inr (record { party = a.party; at = a.at; goes = a.goes }));
  }

  by_log : (x : HandlerId) (b : Block) → IsLogTo m x b → IsReleased heard_now x b
  by_log x b t = onto_heard.released x b (subst (Attends w) t.is (sent_all w k m was (Attends w) i.messages))

  reply_attends : (n : Message) → TellsReleased now.0 m (Some n) → Attends heard_now n
  reply_attends (Unlocked x b) t = record {
    site = site_now;
    found = ap (λ j. find (is_site j) (set_site site_now w.sites)) t.0
        ∙ site_put w site_now s still_here;
    so = t.1;
  }
  reply_attends (Logged x b n) t = by_log x b t
  reply_attends (Answer x b n a) t = by_log x b t
  reply_attends (Lock x b) t = absurd t
  reply_attends (Log x b n es) t = absurd t
  reply_attends m t = tt

  hears_attending : Attending heard_now
  hears_attending =
      let is = (all_found (λ (x : Site). IsCore x.core) (is_site (handler_of m)) w.sites s g.sound.sites found).state in
      record {
        messages = all_pushed (Attends heard_now) w.sent now.1.reply (messages_more w heard_now onto_heard w.sent i.messages)
            (λ reply e. reply_attends reply (subst (TellsReleased now.0 m) e (released-reply s.core.state m now (row s.core.state m) is)));
        parties = λ c p at. client_more w heard_now onto_heard p.client (i.parties c p at);
      }

-- ---- every event keeps it

pub attending_kept : (w : World) → Background w → Attending w → Changes Attending w
attending_kept w g i = record {
  commands = λ c p x d at is. (
      let goes = goes_on w p x d is (all_found (PartyFits w) (is_party c) w.parties p g.ordered.parties at) in
      let logs = all_found (PartyLogs w) (is_party c) w.parties p g.logging.parties at in
      let follows = command_follows w p.client (i.parties c p at) d x is in
      next_attends w i c p (record p { client = d }) at goes.id (commanded_world w p x d).logs (omega (arith, goes.inc)) (λ r held. (logs.block r held).block)
      (λ h b a. inl (follows.goes h b a)) follows.attends);
  sends = λ c p h s at here. (
      let v : World = with_sent w (due p.client h) in
      let onto : Onto w v = record {
        over = λ j b o. o;
        released = λ j b o. o;
        counts = λ j b. counts_more j b w.sent (option_to_list (due p.client h));
        incs = λ d. omega arith;
        work = λ j b a. inr (inr (record { party = a.party; at = a.at; goes = a.goes }));
      } in
      let logs = all_found (PartyLogs w) (is_party c) w.parties p g.logging.parties at in
      record {
        messages = all_pushed (Attends v) w.sent (due p.client h) (messages_more w v onto w.sent i.messages)
            (λ m e. attends_more w v onto m (due_attends w c p h at (i.parties c p at)
            (all_found PartyFitsWell (is_party c) w.parties p g.fit at) logs.block m (sends p.client h m e)));
        parties = λ d x there. client_more w v onto x.client (i.parties d x there);
      });
  hears = λ k m s was goes here. hears_attending w g i k m s was here;
  notices = λ k m p was goes at. (
      let c = client_of m in
      let kept = keeps_row w p.client (all_found (PartyFits w) (is_party c) w.parties p g.ordered.parties at).reservation m (heard p.client m).0
      (heard p.client m).1 (heard_row p.client m) (sent_tells w k m was g.ordered.messages) in
      let logs = all_found (PartyLogs w) (is_party c) w.parties p g.logging.parties at in
      let follows = heard_follows w p.client m (i.parties c p at) (around w g k m p was at) (sent_all w k m was (Attends w) i.messages) in
      next_attends w i c p (heard_party p (heard p.client m)) at kept.id w.logs (omega (arith, kept.inc)) (λ r held. (logs.block r held).block)
      (λ h b a. inl (follows.goes h b a)) follows.attends);
  begins = λ h s t here is. sites_attend w i (set_site (begun_site s) w.sites)
      (λ j b o. at_set (λ st. IsOverIn st b) w (begun_site s) s (own_site w h s here) (λ x. x) j o)
      (λ j b o. at_set (λ st. IsReleasedIn st b) w (begun_site s) s (own_site w h s here) (λ x. x) j o);
  finishes = λ h s t here is. sites_attend w i (set_site (finished_site s t) w.sites)
      (λ j b o. at_set (λ st. IsOverIn st b) w (finished_site s t) s (own_site w h s here) (over-after t s.core.state b) j o)
      (λ j b o. at_set (λ st. IsReleasedIn st b) w (finished_site s t) s (own_site w h s here) (released-after t s.core.state b) j o);
  restarts = λ c p at room. (
      let stored = (all_found (PartyFits w) (is_party c) w.parties p g.ordered.parties at).stored in
      let logs = all_found (PartyLogs w) (is_party c) w.parties p g.logging.parties at in
      next_attends w i c p (restarted_party p) at refl w.logs (omega (arith, stored)) (λ r held. (logs.block r held).block)
      (λ h b a. inr (omega (arith, stored))) (λ r e. absurd (cc)));
  reopens = λ n. sites_attend w i (map (reopened n) w.sites) (λ j b o. at_anew (λ st. IsOverIn st b) w.joint n j w.sites g.ordered.sites o)
      (λ j b o. at_anew (λ st. IsReleasedIn st b) w.joint n j w.sites g.ordered.sites o);
}

pub opens_attending : (ps : List Placement) (ns : List Newcomer) → Attending (opening ps ns)
opens_attending ps ns = record { messages = tt; parties = λ c p at r held. absurd (none_reserved c ns p at r held) }

-- -------- All facts of a reached world.

abbrev Kept : World → Type 0
Kept w = model.Kept w × (Marked w × AllFit w)

kept_kept : (w : World) → Kept w → Changes Kept w
kept_kept w i =
    let f = model.facts w i.0 in
    both_kept model.Kept (λ v. Marked v × AllFit v) w (model.all_kept w i.0)
    (both_kept Marked AllFit w (marked_kept w f.ordered f.sound f.logging f.openings f.taped i.1.0) (fit_kept w i.1.1))

pub background : (w : World) → Kept w → Background w
background w i =
    let f = model.facts w i.0 in
    record {
      ordered = f.ordered;
      sound = f.sound;
      logging = f.logging;
      openings = f.openings;
      standing = f.standing;
      taped = f.taped;
      answering = f.answering;
      marked = i.1.0;
      fit = i.1.1;
    }

-- with the handlers that each client knows
abbrev All : KnownHandlers → World → Type 0
All hs w = (Kept w × Attending w) × Knowing hs w

all_kept : (hs : KnownHandlers) (w : World) → All hs w → Changes (All hs) w
all_kept hs w i =
    let f = model.facts w i.0.0.0 in
    both_kept (λ v. Kept v × Attending v) (Knowing hs) w
    (both_kept Kept Attending w (kept_kept w i.0.0) (attending_kept w (background w i.0.0) i.0.1))
    (knowing_kept hs w f.ordered f.sound f.greetings i.1)

pub record Everything (hs : KnownHandlers) (w : World) : Type 0 where
  pub background : Background w
  pub told : ToldMore w
  pub attending : Attending w
  pub apart : AreApart w.joint
  pub knowing : Knowing hs w

abbrev pub AllFacts : (w : World) → IsReached w → Type 0
AllFacts w r = Everything (known_by r.newcomers) w

pub everything : (w : World) (r : IsReached w) → AllFacts w r
everything w r =
    let hs = known_by r.newcomers in
    let ps = r.placements in
    let ns = r.newcomers in
    let i : All hs w =
    subst (All hs) (ap (λ (x : Run). x.0) r.leads)
    (steps_kept (All hs) (all_kept hs) (opening ps ns) r.events
    (((model.opens_kept ps ns r.opens, (opens_marked ps ns, opens_fit ps ns)), opens_attending ps ns), opens_knowing ps ns r.opens)) in
    record { background = background w i.0.0; told = i.0.0.0.0.0; attending = i.0.1; apart = i.0.0.0.1.1; knowing = i.1 }
