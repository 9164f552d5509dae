-- A client asks a handler, and has less to do once it has heard the reply: it greets, unlocks, or ends its block.
use Rattle.scoop_calm.proofs.Names.{or_right, ◌≡◌, ℕ, ◌+◌, ◌<◌, ◌≤◌, ◌||◌, true, false, nat_lt, length, Some, refl, ap, ◌∙◌, arith, if◌then◌else◌, Ok}
use Rattle.scoop_calm.proofs.Names.{nat_tests, Block, Message, handler_of, client_of, is_for_handler, Mark, Note, WrongHandler, mark_of, HandlerState, Hearing}
use Rattle.scoop_calm.proofs.Names.{hear, hear_of, hear_at, if_here, mark_for, dropped, is_gone, ReservationState, ClientState, with_reservation, idle, due}
use Rattle.scoop_calm.proofs.Names.{Notice, heard, stepped, World, Site, Party, number_of, id_of, site_of, party_of, heard_party, IsReached, by_test, can_do}
use Rattle.scoop_calm.proofs.Names.{block_work, client_work, windows_work, stage_work, wait_work, same_handler_itself, ◌==◌, true≢false, List, [], ◌∷◌, map}
use Rattle.scoop_calm.proofs.Names.{find, Option, None, sym, subst, AllByRecursion, option_map_or, length-map, MAX_CLIENTS, ClientId, HandlerId, same_handler}
use Rattle.scoop_calm.proofs.Names.{handler_decides, IsAscending, has, without, is_party, newer_party, Placement, new_party, opening, inc_of, Run}
use Rattle.scoop_calm.proofs.Names.{tail-ascending, Changes, steps_kept, is_gone_one, IsMarkUpto, ◌&&◌, eq-eqb, Hello, Welcome, same_client, client_decides}
use Rattle.scoop_calm.proofs.Names.{Greeted, Known, IsCore, TooManyClients, hear_hello, greeted_first, with_mark, with_incarnation, greeting_mark}
use Rattle.scoop_calm.proofs.Names.{All-mark_of, mark_of-client, Welcomed, with_unwelcomed, due_in_block, hear_welcome, ignored, is_site, number_found}
use Rattle.scoop_calm.proofs.Names.{known_by, known_there, all_found, MarksUpto, inc_there, own_site, PartyKnown, ◌⊎◌, not, Bool, IsFalse, ⊎_elim, same_Some, Lock}
use Rattle.scoop_calm.proofs.Names.{MarkStage, AtShut, is_open, is_shut, block_of, IsState, HolderIsUnderWay, is_holder, is_unfinished, holder_from_test}
use Rattle.scoop_calm.proofs.Names.{PartyFits, IsNamed, Member, Unlock, Unlocked, Freed, fresh_mark, without_hold, is_new, hear_unlock, moved, Stage, Unlocking}
use Rattle.scoop_calm.proofs.Names.{GivingUp, Step, UnlockedStep, at_stage, UnlockedNote, due_after, hear_step, after_step, newest_block, same_block_itself}
use Rattle.scoop_calm.proofs.Names.{none_in_empty, WindowsFit, PartyLogs, length-append, or_parts, EndEntry, is_empty, Greeting, Running, WindowState, with_end}
use Rattle.scoop_calm.proofs.Names.{is_ended, lowest_full, phase_of, phase_of_block, phase_at, DoEnd, command, end_block, end_unless_waiting, end_unless_full}
use Rattle.scoop_calm.proofs.Names.{with_ends, window_work}
use Rattle.scoop_calm.specs.declared.next.Next.TheVariants as next
use Rattle.scoop_calm.proofs.Moves.{for_clients, parties_total, Helps, ask_useful, end_useful}
use Rattle.scoop_calm.proofs.Lists.{NoTwice, less_without, item_there, all_member}
use Rattle.scoop_calm.proofs.Marks.{MarkFits, SiteMarked, IsOverIn}
use Rattle.scoop_calm.proofs.Clients.{PartyFitsWell, BlockFits}
use Rattle.scoop_calm.proofs.Everything.{AllFacts}
use Rattle.scoop_calm.proofs.Attending.{IsOver, Goes, AtWork, Attended, Attends}
use Rattle.scoop_reserve.specs.Due as owed
use Rattle.scoop_reserve.specs.Hearing as reservation

-- -------- A client asks a handler, and has less to do once it has heard the reply.

-- the handler replies so
pub record Replies (s : HandlerState) (m reply : Message) : Type 0 where
  pub state : HandlerState
  pub told : Note
  pub is : hear s m ≡ (state, record { reply = Some reply; note = told })

pub asks_useful : (w : World) (reached : IsReached w) (p : Party) (s : Site) (m reply : Message) → party_of (id_of p) w ≡ Some p → site_of
    (number_of s) w ≡ Some s → due p.client (number_of s) ≡ Some m → is_for_handler m ≡ true → handler_of m ≡ number_of s → Replies s.core.state m reply
    → can_do s.core.state m ≡ true → is_for_handler reply ≡ false → client_of reply ≡ id_of p → (d : Notice) → heard p.client reply ≡ d → d.0.id ≡ id_of p
    → client_work d.0 < client_work p.client → Helps w (next.Ask (id_of p) (number_of s))
asks_useful w reached p s m reply at here owes goes to r can back own d takes id less =
    let f : Party → ℕ = λ q. client_work q.client in
    ask_useful w reached p s m reply r.state r.told d at here owes goes to r.is back can own takes (for_clients
    (omega (arith, parties_total w reached f (heard_party p d) p (ap (λ c. party_of c w) id ∙ at), less)))

-- ---- a site for each handler

-- ---- a message of a block that the handler knows

pub known_mark : (b : Block) (k : Mark) → k.inc ≡ b.inc → k.num ≤ b.num → mark_for b (Some k) ≡ Ok k
known_mark b k inc num = grind (arith, nat_tests)

pub heard_of : (s : HandlerState) (b : Block) (k : Mark) (f : Mark → Hearing) → mark_of b.client s.marks ≡ Some k → k.inc ≡ b.inc → k.num ≤ b.num
    → if_here s s.number (hear_of s b f) ≡ f k
heard_of s b k f found inc num =
    ap (λ t. if t then hear_of s b f else dropped s WrongHandler) (same_handler_itself s.number)
    ∙ ap (λ o. hear_at s (mark_for b o) f) found
    ∙ ap (λ r. hear_at s r f) (known_mark b k inc num)

-- ---- a step of a reservation

pub stepped_id : (c : ClientState) (s : ReservationState) → (stepped c s).id ≡ c.id
stepped_id c s = by_test (λ t. (if t then idle c else with_reservation c s).id ≡ c.id) (is_gone s) (λ _. refl) (λ _. refl)

pub stepped_less : (c : ClientState) (r s : ReservationState) → c.reservation ≡ Some r → stage_work s s.stage < stage_work r r.stage
    → client_work (stepped c s) < client_work c
stepped_less c r s held less =
    let was : client_work c ≡ length c.unwelcomed + (stage_work r r.stage + windows_work c.windows) + wait_work c.waits =
    ap (λ o. length c.unwelcomed + block_work c.windows o + wait_work c.waits) held in
    grind (arith, was, less)

-- -------- A handler has room for a mark of each client of its world.

-- ---- a list without repeats is no longer than one that has all its items

stays_without : (k x : HandlerId) (hs : List HandlerId) → has hs x ≡ true → (k ≡ x → ⊥) → has (without k hs) x ≡ true
stays_without k x hs e apart = let gone = is_gone_one k x hs e in grind (arith, gone, apart)

within_length : (ks hs : List HandlerId) → NoTwice ks → ((x : HandlerId) → has ks x ≡ true → has hs x ≡ true) → length ks ≤ length hs
within_length [] hs once all = omega arith
within_length (k ∷ ks) hs once all =
    let here : has (k ∷ ks) k ≡ true = ap (λ t. t || has ks k) ((handler_decides k k).1 refl) in
    let rest = within_length ks (without k hs) once.1 (λ x e.
    stays_without k x hs (all x (or_right (same_handler k x) (has ks x) e))
    (λ same. true≢false (sym (subst (λ y. has ks y ≡ true) (sym same) e) ∙ once.0))) in
    omega (arith, rest, less_without k hs (all k here))

-- ---- marks and clients, by their numbers

abbrev name : ClientId → HandlerId
name c = record { 0 = c.0 }

abbrev names : List Mark → List HandlerId
names marks = map (λ (k : Mark). name k.client) marks

abbrev people : List Party → List HandlerId
people ps = map (λ (p : Party). name p.client.id) ps

above : (k : Mark) (marks : List Mark) → IsAscending (k ∷ marks) → (x : HandlerId) → has (names marks) x ≡ true → k.client.0 < x.0
above k [] up x e = absurd (true≢false (sym e))
above k (z ∷ zs) up x e = let rest = above z zs up.1 x in grind (arith, nat_tests, rest, up.0)

marks_once : (marks : List Mark) → IsAscending marks → NoTwice (names marks)
marks_once [] up = tt
marks_once (k ∷ ks) up = (
  (let less = above k ks up (name k.client) in grind (arith, less)),
  marks_once ks (tail-ascending k ks up),
)

none_named : (c : ClientId) (marks : List Mark) → mark_of c marks ≡ None → has (names marks) (name c) ≡ false
none_named c [] e = refl
none_named c (k ∷ ks) e = let rest = none_named c ks in grind (arith, nat_tests, rest)

found_named : (c : ClientId) (ps : List Party) (p : Party) → find (is_party c) ps ≡ Some p → has (people ps) (name c) ≡ true
found_named c [] p e = absurd (cc)
found_named c (x ∷ xs) p e = let rest = found_named c xs p in grind (arith, nat_tests, rest)

-- a client with a mark is in the world
is_there : (w : World) (c : ClientId) → 1 ≤ inc_of w c → has (people w.parties) (name c) ≡ true
is_there w c le = at (party_of c w) refl le
  where
    at : (o : Option Party) → party_of c w ≡ o → 1 ≤ option_map_or (λ (p : Party). p.client.inc) o 0 → has (people w.parties) (name c) ≡ true
    at None e le = absurd (omega (arith, le))
    at (Some p) e le = found_named c w.parties p e

all_there : (w : World) (h : HandlerId) (ran : _) (marks : List Mark) → AllByRecursion (MarkFits w h ran) marks → AllByRecursion (IsMarkUpto (inc_of w)) marks
    → (x : HandlerId) → has (names marks) x ≡ true → has (people w.parties) x ≡ true
all_there w h ran [] fits upto x e = absurd (true≢false (sym e))
all_there w h ran (k ∷ ks) fits upto x e =
    let same = (handler_decides (name k.client) x).0 in
    let own = is_there w k.client (omega (arith, fits.0.inc, upto.0.upto)) in
    let rest = all_there w h ran ks fits.1 upto.1 x in
    grind (arith, nat_tests, same, own, rest)

-- ---- the clients of a world stay as many

many_kept : (n : ℕ) (w : World) → length w.parties ≡ n → Changes (λ v. length v.parties ≡ n) w
many_kept n w i = record {
  commands = λ c p x d at is. length-map w.parties (newer_party (record p { client = d })) ∙ i;
  sends = λ c p h s at here. i;
  hears = λ k m s was goes here. i;
  notices = λ k m p was goes at. length-map w.parties _ ∙ i;
  begins = λ h s t here is. i;
  finishes = λ h s t here is. i;
  restarts = λ c p at room. length-map w.parties _ ∙ i;
  reopens = λ k. i;
}

parties_few : (w : World) → IsReached w → length w.parties ≤ MAX_CLIENTS
parties_few w r =
    let v : World = opening r.placements r.newcomers in
    let same : length w.parties ≡ length r.newcomers =
    subst (λ (u : World). length u.parties ≡ length r.newcomers) (ap (λ (x : Run). x.0) r.leads)
    (steps_kept (λ u. length u.parties ≡ length r.newcomers) (many_kept (length r.newcomers)) v r.events
    (length-map r.newcomers new_party)) in
    omega (arith, same, r.opens.few_clients)

-- a handler that has no mark of a client of the world has room for one
pub has_room : (w : World) → IsReached w → (h : HandlerId) (ran : _) (marks : List Mark) → AllByRecursion (MarkFits w h ran) marks
    → AllByRecursion (IsMarkUpto (inc_of w)) marks → IsAscending marks
    → (c : ClientId) (p : Party) → party_of c w ≡ Some p → mark_of c marks ≡ None → (length marks == MAX_CLIENTS) ≡ false
has_room w r h ran marks fits upto up c p at none =
    let all = within_length (name c ∷ names marks) (people w.parties) (none_named c marks none, marks_once marks up) (λ x e.
    by_test (λ t. (t || has (names marks) x) ≡ true → has (people w.parties) x ≡ true) (same_handler (name c) x)
    (λ is f. subst (λ y. has (people w.parties) y ≡ true) ((handler_decides (name c) x).0 is) (found_named c w.parties p at))
    (λ is f. all_there w h ran marks fits upto x f) e) in
    let besides = length-map w.parties (λ (p : Party). name p.client.id) in
    let less : length marks < MAX_CLIENTS = omega (arith, parties_few w r, besides, length-map marks (λ (k : Mark). name k.client), all) in
    grind (arith, nat_tests)

-- -------- A client can greet a handler that hasn't welcomed it.

-- ---- the handler

hello_heard : (s : HandlerState) (c : ClientId) (inc : ℕ) (o : Option Mark) → (o ≡ None → (length s.marks == MAX_CLIENTS) ≡ false)
    → ((k : Mark) → o ≡ Some k → k.inc ≤ inc) → mark_of c s.marks ≡ o → Replies s (Hello s.number c inc) (Welcome s.number c inc)
hello_heard s c inc None room le found = record {
  state = with_mark s (greeting_mark c inc);
  told = Greeted;
  is =
      ap (λ t. if t then hear_hello s c inc (mark_of c s.marks) else dropped s WrongHandler) (same_handler_itself s.number) ∙ ap (hear_hello s c inc) found
      ∙ ap (λ t. if t then dropped s TooManyClients else greeted_first s c inc) (room refl);
}
hello_heard s c inc (Some k) room le found =
    let start = ap (λ t. if t then hear_hello s c inc (mark_of c s.marks) else dropped s WrongHandler) (same_handler_itself s.number)
    ∙ ap (hear_hello s c inc) found in
    by_test (λ _. Replies s (Hello s.number c inc) (Welcome s.number c inc)) (nat_lt k.inc inc)
    (λ is. record { state = with_incarnation s c inc k; told = Greeted; is = start ∙ grind (arith, is) })
    (λ is.
    let below = le k refl in
    let same : (k.inc == inc) ≡ true = grind (arith, nat_tests) in
    record { state = s; told = Known; is = start ∙ grind (arith, is, same) })

-- ---- the client

welcome_heard : (c : ClientState) (h : HandlerId) → has c.unwelcomed h ≡ true
    → heard c (Welcome h c.id c.inc) ≡ (with_unwelcomed c (without h c.unwelcomed), Welcomed h)
welcome_heard c h left =
    let own : (same_client c.id c.id && c.inc == c.inc) ≡ true = (λ i. (client_decides c.id c.id).1 refl i && eq-eqb c.inc c.inc refl i) in
    ap (λ t. if t then hear_welcome c h else ignored c) own ∙ ap (λ t. if t then (with_unwelcomed c (without h c.unwelcomed), Welcomed h) else ignored c) left

-- ---- both

pub greet_useful : (w : World) (r : IsReached w) → AllFacts w r → (p : Party) → party_of (id_of p) w ≡ Some p
    → (h : HandlerId) → has p.client.unwelcomed h ≡ true → Helps w (next.Ask (id_of p) h)
greet_useful w r e p at h left =
    let g = e.background in
    let c = p.client in
    let fits = all_found PartyFitsWell (is_party (id_of p)) w.parties p g.fit at in
    let known = all_found (PartyKnown (known_by r.newcomers) w.sites) (is_party (id_of p)) w.parties p e.knowing.parties at in
    let named : has (map number_of w.sites) h ≡ true = known_there w r (id_of p) h (ap (λ ks. has ks h) (sym known.handlers) ∙ fits.within h left) in
    let there = item_there number_of h w.sites named in
    let s : Site = there.0 in
    let number : number_of s ≡ h = number_found h w s there.1 in
    let here : site_of (number_of s) w ≡ Some s = own_site w h s there.1 in
    let left_here : has c.unwelcomed (number_of s) ≡ true = ap (has c.unwelcomed) number ∙ left in
    let core = all_found (λ (x : Site). IsCore x.core) (is_site h) w.sites s g.sound.sites there.1 in
    let marks = all_found (SiteMarked w) (is_site h) w.sites s g.marked.sites there.1 in
    let upto = all_found (MarksUpto w) (is_site h) w.sites s e.told.1.0.marks there.1 in
    let replies : Replies s.core.state (Hello (number_of s) c.id c.inc) (Welcome (number_of s) c.id c.inc) =
    hello_heard s.core.state c.id c.inc (mark_of c.id s.core.state.marks)
    (λ none. has_room w r (number_of s) s.ran s.core.state.marks marks upto core.state.ascending c.id p at none)
    (λ k found.
    let le = (All-mark_of (IsMarkUpto (inc_of w)) c.id s.core.state.marks k upto found).upto in
    omega (arith, le, ap (inc_of w) (mark_of-client c.id s.core.state.marks k found), inc_there w (id_of p) p at))
    refl in
    subst (λ n. Helps w (next.Ask (id_of p) n)) number
    (asks_useful w r p s (Hello (number_of s) c.id c.inc) (Welcome (number_of s) c.id c.inc) at here
    (ap (λ t. if t then Some (Hello (number_of s) c.id c.inc) else due_in_block c (number_of s) c.reservation) left_here)
    refl refl replies refl refl refl
    (with_unwelcomed c (without (number_of s) c.unwelcomed), Welcomed (number_of s)) (welcome_heard c (number_of s) left_here) refl
    (omega (arith, less_without (number_of s) c.unwelcomed left_here)))

-- -------- The mark of a client at a handler that has welcomed it. The mark is of the client's incarnation. If its block is
-- unfinished, the client is at that block.

pub record MarkAt (w : World) (p : Party) (h : HandlerId) : Type 0 where
  pub site : Site
  pub found : site_of h w ≡ Some site
  pub number : number_of site ≡ h
  pub mark : Mark
  pub there : mark_of (id_of p) site.core.state.marks ≡ Some mark
  pub client : mark.client ≡ id_of p
  pub inc : mark.inc ≡ p.client.inc
  pub num : mark.num ≤ p.client.last

shut_open : (e : Bool) (stage : MarkStage) → stage ≡ AtShut → (is_open stage && e) ≡ false
shut_open e stage at = ap (λ t. is_open t && e) at

or_holder : (t u : Bool) → (t || u) ≡ true → u ≡ false → t ≡ true
or_holder true u e f = refl
or_holder false u e f = absurd (true≢false (sym e ∙ f))

-- an unfinished block isn't shut
not_shut : (s : HandlerState) (k : Mark) → IsState s → mark_of k.client s.marks ≡ Some k → is_unfinished s k ≡ true → k.stage ≡ AtShut → ⊥
not_shut s k is found unfinished at =
    let holds : s.holder ≡ Some (block_of k) = holder_from_test s.holder (block_of k)
    (or_holder (is_holder s.holder (block_of k)) _ unfinished (shut_open (not k.ended) k.stage at)) in
    let way : HolderIsUnderWay (Some (block_of k)) s.marks = subst (λ o. HolderIsUnderWay o s.marks) holds is.holder in
    let one : way.mark ≡ k = same_Some way.mark k (sym way.found ∙ found) in
    let stage : IsFalse (is_shut k.stage) = subst (λ (x : Mark). IsFalse (is_shut x.stage)) one way.stage in
    true≢false (sym (ap is_shut at) ∙ stage)

module _ (w : World) (r : IsReached w) (e : AllFacts w r) (p : Party) (at : party_of (id_of p) w ≡ Some p) where
  pub mark_at : (h : HandlerId) → has p.client.handlers h ≡ true → has p.client.unwelcomed h ≡ false → MarkAt w p h
  mark_at h named welcome =
      let g = e.background in
      let known = all_found (PartyKnown (known_by r.newcomers) w.sites) (is_party (id_of p)) w.parties p e.knowing.parties at in
      let greeted = known.greeted h (ap (λ ks. has ks h) (sym known.handlers) ∙ named) welcome in
      let s = greeted.site in
      let k = greeted.reached.mark in
      let marks = all_found (SiteMarked w) (is_site h) w.sites s g.marked.sites greeted.found in
      let upto = all_found (MarksUpto w) (is_site h) w.sites s e.told.1.0.marks greeted.found in
      let le = (All-mark_of (IsMarkUpto (inc_of w)) (id_of p) s.core.state.marks k upto greeted.reached.found).upto in
      let client : k.client ≡ id_of p = mark_of-client (id_of p) s.core.state.marks k greeted.reached.found in
      let same : k.inc ≡ p.client.inc = omega (arith, le, ap (inc_of w) client, inc_there w (id_of p) p at, greeted.reached.upto.inc) in
      let fits = all_found (PartyFits w) (is_party (id_of p)) w.parties p g.ordered.parties at in
      record {
        site = s;
        found = greeted.found;
        number = number_found h w s greeted.found;
        mark = k;
        there = greeted.reached.found;
        client = client;
        inc = same;
        num =
            ⊎_elim
            (λ (z : k.num ≡ 0). omega (arith, z))
            (λ (n : IsNamed w (number_of s) (block_of k)). (fits.newest (block_of k) n.handlers client n.set).num (sym same))
            (All-mark_of (MarkFits w (number_of s) s.ran) (id_of p) s.core.state.marks k marks greeted.reached.found).named;
      }

  -- where the mark's block is unfinished, the client is at it, and has asked the handler
  pub at_work : (h : HandlerId) (m : MarkAt w p h) → is_unfinished m.site.core.state m.mark ≡ true → Goes p.client h (block_of m.mark)
  at_work h m unfinished =
      let g = e.background in
      let s = m.site in
      let k = m.mark in
      let core = all_found (λ (x : Site). IsCore x.core) (is_site h) w.sites s g.sound.sites m.found in
      let marks = all_found (SiteMarked w) (is_site h) w.sites s g.marked.sites m.found in
      let f = All-mark_of (MarkFits w (number_of s) s.ran) (id_of p) s.core.state.marks k marks m.there in
      let own : mark_of k.client s.core.state.marks ≡ Some k = ap (λ c. mark_of c s.core.state.marks) m.client ∙ m.there in
      ⊎_elim
      (λ (shut : k.stage ≡ AtShut). absurd (not_shut s.core.state k core.state own unfinished shut))
      (λ (sent : Member (Lock (number_of s) (block_of k)) w.sent).
      let a : Attended w (number_of s) (block_of k) = all_member (Attends w) w.sent (Lock (number_of s) (block_of k)) e.attending.messages sent in
      ⊎_elim
      (λ (older : k.inc < inc_of w k.client).
      absurd (omega (arith, older, inc_there w (id_of p) p at, ap (inc_of w) m.client, m.inc)))
      (λ (rest : IsOver w (number_of s) (block_of k) ⊎ AtWork w (number_of s) (block_of k)).
      ⊎_elim
      (λ (o : IsOver w (number_of s) (block_of k)).
      let one : o.site ≡ s = same_Some o.site s (sym o.found ∙ ap (λ j. site_of j w) m.number ∙ m.found) in
      let over : IsOverIn s.core.state (block_of k) = subst (λ (x : Site). IsOverIn x.core.state (block_of k)) one o.so in
      absurd (true≢false (sym unfinished ∙ over.finished k own refl)))
      (λ (a : AtWork w (number_of s) (block_of k)).
      let one : a.party ≡ p = same_Some a.party p (sym a.at ∙ ap (λ c. party_of c w) m.client ∙ at) in
      subst (λ (q : Party). Goes q.client h (block_of k)) one (subst (λ j. Goes a.party.client j (block_of k)) m.number a.goes))
      rest) a)
      f.locked

-- -------- A client that has something to unlock can unlock it. Its mark at the handler is at the block, or at an earlier one
-- that is finished. The handler replies Unlocked on each row that this leaves, and the client has one handler less to
-- unlock.

-- ---- what a client's reservation owes and hears

pub due_reserved : (c : ClientState) (h : HandlerId) (r : ReservationState) (m : Message) → has c.unwelcomed h ≡ false → c.reservation ≡ Some r
    → owed.due r h ≡ Some m → due c h ≡ Some m
due_reserved c h r m welcome held owes = ap (λ t. if t then Some (Hello h c.id c.inc) else due_in_block c h c.reservation) welcome ∙ ap (due_in_block c h) held
    ∙ ap (due_after c h r) owes

-- ---- the handler

pub unlock_heard : (s : HandlerState) (b : Block) (k : Mark) → mark_of b.client s.marks ≡ Some k → k.inc ≡ b.inc → k.num ≤ b.num
    → (is_new b k ≡ true → is_unfinished s k ≡ false) → Replies s (Unlock s.number b) (Unlocked s.number b)
unlock_heard s b k found inc num clear =
    let start = heard_of s b k (hear_unlock s b) found inc num in
    by_test (λ _. Replies s (Unlock s.number b) (Unlocked s.number b)) (is_new b k)
    (λ new. record { state = moved s s.holder (fresh_mark b AtShut); told = Freed; is = start ∙ grind (arith, new, clear new) })
    (λ old.
    by_test (λ _. Replies s (Unlock s.number b) (Unlocked s.number b)) (is_holder s.holder b)
    (λ holds. record { state = moved s None (without_hold k); told = Freed; is = start ∙ grind (arith, old, holds) })
    (λ free. record { state = s; told = Known; is = start ∙ grind (arith, old, free) }))

-- ---- the client

pub data IsReleasing : Stage → Type 0 where
  unlocks : IsReleasing Unlocking
  gives_back : IsReleasing GivingUp

releasing_owes : (r : ReservationState) (h : HandlerId) (stage : Stage) → IsReleasing stage → has r.left h ≡ true
    → owed.due_in r h stage ≡ Some (Unlock h r.block)
releasing_owes r h _ unlocks is = ap (λ t. if t then Some (Unlock h r.block) else None) is
releasing_owes r h _ gives_back is = ap (λ t. if t then Some (Unlock h r.block) else None) is

releasing_hears : (r : ReservationState) (h : HandlerId) (stage : Stage) → IsReleasing stage → has r.left h ≡ true
    → reservation.hear_unlocked r h stage ≡ (at_stage r stage (without h r.left), UnlockedStep h)
releasing_hears r h _ unlocks is = ap (λ t. if t then (at_stage r Unlocking (without h r.left), UnlockedStep h) else reservation.ignored r) is
releasing_hears r h _ gives_back is = ap (λ t. if t then (at_stage r GivingUp (without h r.left), UnlockedStep h) else reservation.ignored r) is

releasing_less : (r : ReservationState) (h : HandlerId) (stage : Stage) → IsReleasing stage → has r.left h ≡ true
    → stage_work (at_stage r stage (without h r.left)) stage < stage_work r stage
releasing_less r h _ unlocks is = less_without h r.left is
releasing_less r h _ gives_back is = less_without h r.left is

unlocked_heard : (c : ClientState) (r : ReservationState) (h : HandlerId) → c.reservation ≡ Some r → IsReleasing r.stage → has r.left h ≡ true
    → heard c (Unlocked h r.block) ≡ (stepped c (at_stage r r.stage (without h r.left)), UnlockedNote h)
unlocked_heard c r h held stage is =
    ap (hear_step c (Unlocked h r.block)) held
    ∙ ap (λ t. after_step c (if t then reservation.hear_unlocked r h r.stage else reservation.ignored r).0
    (if t then reservation.hear_unlocked r h r.stage else reservation.ignored r).1) (same_block_itself r.block)
    ∙ ap (λ (n : ReservationState × Step). after_step c n.0 n.1) (releasing_hears r h r.stage stage is)

-- ---- both

module _ (w : World) (r : IsReached w) (e : AllFacts w r) (p : Party) (at : party_of (id_of p) w ≡ Some p)
    (q : ReservationState) (held : p.client.reservation ≡ Some q) where
  pub block_fits : BlockFits p.client q
  block_fits = (all_found PartyFitsWell (is_party (id_of p)) w.parties p e.background.fit at).block q held

  pub welcome : (h : HandlerId) → has p.client.unwelcomed h ≡ false
  welcome h = none_in_empty p.client.unwelcomed h block_fits.welcome

  pub own_windows : WindowsFit w p.client q
  own_windows = (all_found (PartyLogs w) (is_party (id_of p)) w.parties p e.background.logging.parties at).block q held

  pub own_mark : (h : HandlerId) → has q.handlers h ≡ true → MarkAt w p h
  own_mark h named = mark_at w r e p at h (block_fits.reserves.known_all h named) (welcome h)

  -- where the client's mark isn't at its block, it is finished
  pub newer_clear : (h : HandlerId) (m : MarkAt w p h) → is_new q.block m.mark ≡ true → is_unfinished m.site.core.state m.mark ≡ false
  newer_clear h m new =
      by_test (λ t. t ≡ false) (is_unfinished m.site.core.state m.mark)
      (λ on.
      let a : Goes p.client h (block_of m.mark) = at_work w r e p at h m on in
      let both : Some a.reservation ≡ Some q = sym a.held ∙ held in
      let one : a.reservation ≡ q = cc in
      let num : q.block.num ≡ m.mark.num = ap (λ (x : ReservationState). x.block.num) (sym one) ∙ ap (λ (y : Block). y.num) a.block in
      absurd (is_not_new q.block m.mark num new))
      (λ off. refl)
    where
      is_not_new : (b : Block) (k : Mark) → b.num ≡ k.num → is_new b k ≡ true → ⊥
      is_not_new b k same new = let less : nat_lt k.num b.num ≡ false = grind (arith, nat_tests) in true≢false (sym new ∙ less)

  pub unlock_useful : IsReleasing q.stage → (h : HandlerId) → has q.left h ≡ true → Helps w (next.Ask (id_of p) h)
  unlock_useful stage h left =
      let m = own_mark h (block_fits.reserves.within h left) in
      let s = m.site in
      let n = number_of s in
      let number = m.number in
      let b = q.block in
      let is : b ≡ newest_block p.client = own_windows.block in
      let client : b.client ≡ id_of p = ap (λ (y : Block). y.client) is in
      let inc : m.mark.inc ≡ b.inc = m.inc ∙ sym (ap (λ (y : Block). y.inc) is) in
      let found : mark_of b.client s.core.state.marks ≡ Some m.mark = ap (λ c. mark_of c s.core.state.marks) client ∙ m.there in
      let left_here : has q.left n ≡ true = ap (has q.left) number ∙ left in
      subst (λ j. Helps w (next.Ask (id_of p) j)) number
      (asks_useful w r p s (Unlock n b) (Unlocked n b) at (own_site w h s m.found)
      (due_reserved p.client n q (Unlock n b) (welcome n) held (releasing_owes q n q.stage stage left_here))
      refl refl (unlock_heard s.core.state b m.mark found inc (omega (arith, m.num, ap (λ (y : Block). y.num) is)) (newer_clear h m)) refl refl client
      (stepped p.client (at_stage q q.stage (without n q.left)), UnlockedNote n) (unlocked_heard p.client q n held stage left_here)
      (stepped_id p.client (at_stage q q.stage (without n q.left)))
      (stepped_less p.client q (at_stage q q.stage (without n q.left)) held (releasing_less q n q.stage stage left_here)))

-- -------- A client that waits for no answer and has room in its windows can end its block.

-- ---- the command

ends : (c : ClientState) (q : ReservationState) → is_empty c.unwelcomed ≡ true → c.reservation ≡ Some q → q.stage ≡ Unlocking → is_ended c.windows ≡ false
    → c.waits ≡ None → lowest_full c.windows ≡ None → command c DoEnd ≡ Ok (with_ends c)
ends c q welcome held stage on free room =
    let running : phase_of c ≡ Running =
    ap (λ t. if t then phase_of_block c.windows c.reservation else Greeting) welcome ∙ ap (phase_of_block c.windows) held ∙ (λ i. phase_at (stage i) (on i)) in
    ap (end_block c) running ∙ ap (end_unless_waiting c) free ∙ ap (end_unless_full c) room

-- ---- less is left to do

ended_window : (l : WindowState) → l.ended ≡ false → window_work (with_end l) + 1 ≡ window_work l
ended_window l on = omega (arith, length-append l.unacked (EndEntry ∷ []), ap (λ t. length l.unacked + (if t then 0 else 2)) on)

ended_windows : (ls : List WindowState) → is_ended ls ≡ false → windows_work (map with_end ls) + length ls ≡ windows_work ls
ended_windows [] on = refl
ended_windows (l ∷ ls) on = let b = or_parts l.ended (is_ended ls) on in omega (arith, ended_window l b.0, ended_windows ls b.1)

pub ends_less : (c : ClientState) (q : ReservationState) → c.reservation ≡ Some q → is_ended c.windows ≡ false → c.waits ≡ None → 0 < length c.windows
    → client_work (with_ends c) < client_work c
ends_less c q held on free some =
    let was : client_work c ≡ length c.unwelcomed + (stage_work q q.stage + windows_work c.windows) + 0 =
    (λ i. length c.unwelcomed + block_work c.windows (held i) + wait_work (free i)) in
    let now : client_work (with_ends c) ≡ length c.unwelcomed + (stage_work q q.stage + windows_work (map with_end c.windows)) + 0 =
    ap (λ o. length c.unwelcomed + block_work (map with_end c.windows) o + 0) held in
    omega (arith, ended_windows c.windows on, was, now, some)

pub ending_useful :
    (w : World) → IsReached w → (p : Party) → party_of (id_of p) w ≡ Some p → (q : ReservationState) → p.client.reservation ≡ Some q → BlockFits p.client q
    → q.stage ≡ Unlocking → is_ended p.client.windows ≡ false → p.client.waits ≡ None → lowest_full p.client.windows ≡ None → Helps w (next.End (id_of p))
ending_useful w r p at q held fits stage on free room =
    let c = p.client in
    let d = with_ends c in
    let f : Party → ℕ = λ x. client_work x.client in
    end_useful w r p d at (ends c q fits.welcome held stage on free room) (for_clients
    (omega (arith, parties_total w r f (record p { client = d }) p at, ends_less c q held on free fits.windows.some)))
