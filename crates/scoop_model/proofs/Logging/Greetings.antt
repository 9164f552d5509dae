-- The invariant about greetings. A client greets in no incarnation above its own, and no handler's mark is above its client's
-- incarnation. A handler that has welcomed an incarnation has a mark that isn't below it.
use Rattle.scoop_model.proofs.Names.{◌≡◌, ℕ, ◌<◌, List, [], ◌∷◌, map, Some, None, refl, sym, ap, ◌∙◌, subst, arith, ◌≤◌, Option, find, true, true≢false, nat_lt}
use Rattle.scoop_model.proofs.Names.{BlockLog, logs_after, newest_block, and_parts, nat_tests, AllByRecursion, list_any, option_map_or, ⊤, handler_decides}
use Rattle.scoop_model.proofs.Names.{client_decides, client_of, handler_of, Message, Hello, Welcome, Block, ClientId, HandlerId, MarksGrow-after, all_found}
use Rattle.scoop_model.proofs.Names.{MarksGrow-refl, All-mark_of, All-set_mark, All-add_mark, mark_of-set_mark_own, mark_of-client, mark_of-add_mark_own}
use Rattle.scoop_model.proofs.Names.{grows-row, row, MarksGrow, Hearing, hear, IsHeardAt, greeting_mark, fresh_mark, set_mark, mark_of, Row, first_greeting}
use Rattle.scoop_model.proofs.Names.{newer_greeting, lock_granted, is_opened, unlock_of_a_block_never_held, is_freed, is_taken, repeated_greeting, ran_of}
use Rattle.scoop_model.proofs.Names.{mark_after, HandlerState, Mark, AtHeld, AtShut, Ran, due, heard, block_named, all_made, all_mapped, by_party, id_found}
use Rattle.scoop_model.proofs.Names.{with_sent, heard_party, restarted_party, heard_world, heard_site, begun_site, finished_site, reopened_world, Placement}
use Rattle.scoop_model.proofs.Names.{Newcomer, new_site, opening, World, Party, set_party, Site, number_of, is_site, site_of, set_site, is_party, sent_at}
use Rattle.scoop_model.proofs.Names.{party_of, id_of, is_succeeded, is_newer_welcome, inc_of, own_site, heard_place, site_put}
use Rattle.scoop_handler.specs.declared.mark.Stage.{Stage}
use Rattle.scoop_model.proofs.Events.{Changes}
use Rattle.scoop_model.proofs.Sound.{sent_all}
use Rattle.scoop_model.proofs.Order.{IsReachedIn, IsGranted, PartyFits, Ordered, all_more_of, all_pushed, all_set_site, granted_set, granted_anew, goes_on}
use Rattle.scoop_model.proofs.Order.{keeps_hearing, by_restart, all_anew}
use Rattle.scoop_model.proofs.Moves.{Sends, sends_hello, sends}

-- ---- what is true

-- the handler's mark of the client is at the incarnation or past it, as at a first block of that incarnation
abbrev pub IsGreeted : World → HandlerId → ClientId → ℕ → Type 0
IsGreeted w h c inc = IsGranted w h (block_named c inc 0)

abbrev pub Greets : World → Message → Type 0
Greets w (Hello h c inc) = inc ≤ inc_of w c
Greets w (Welcome h c inc) = IsGreeted w h c inc
Greets w m = ⊤

-- the mark's incarnation isn't above its client's
pub record IsMarkUpto (bound : ClientId → ℕ) (k : Mark) : Type 0 where
  pub upto : k.inc ≤ bound k.client

abbrev pub MarksUpto : World → Site → Type 0
MarksUpto w s = AllByRecursion (IsMarkUpto (inc_of w)) s.core.state.marks

pub record Greetings (w : World) : Type 0 where
  pub messages : AllByRecursion (Greets w) w.sent
  pub marks : AllByRecursion (MarksUpto w) w.sites

-- ---- what goes on

record Onward (v w : World) : Type 0 where
  pub incs : (c : ClientId) → inc_of v c ≤ inc_of w c
  pub granted : (h : HandlerId) (b : Block) → IsGranted v h b → IsGranted w h b

module _ (v w : World) (x : Onward v w) where
  greets_more : (m : Message) → Greets v m → Greets w m
  greets_more (Hello h c inc) g = omega (arith, g, x.incs c)
  greets_more (Welcome h c inc) g = x.granted h (block_named c inc 0) g
  greets_more m g = tt

  marks_more : (marks : List Mark) → AllByRecursion (IsMarkUpto (inc_of v)) marks → AllByRecursion (IsMarkUpto (inc_of w)) marks
  marks_more marks all = all_more_of (IsMarkUpto (inc_of v)) (IsMarkUpto (inc_of w)) (λ k u. record { upto = omega (arith, u.upto, x.incs k.client) }) marks all

  greetings_more : AllByRecursion (Greets v) w.sent → AllByRecursion (MarksUpto v) w.sites → Greetings w
  greetings_more messages sites = grind (arith, all_more_of, greets_more, marks_more)

-- ---- clients

pub inc_there : (w : World) (c : ClientId) (p : Party) → party_of c w ≡ Some p → inc_of w (id_of p) ≡ p.client.inc
inc_there w c p at = ap (inc_of w) (id_found c w p at) ∙ ap (λ o. option_map_or (λ q. q.client.inc) o 0) at

-- one client's incarnation grows, or stays
inc_set : (w : World) (c : ClientId) (p q : Party) → party_of c w ≡ Some p → id_of q ≡ id_of p → p.client.inc ≤ q.client.inc
    → (d : ClientId) → inc_of w d ≤ option_map_or (λ (y : Party). y.client.inc) (find (is_party d) (set_party q w.parties)) 0
inc_set w c p q at same le d =
    let own : c ≡ id_of q = sym (id_found c w p at) ∙ sym same in
    by_party (λ o. inc_of w d ≤ option_map_or (λ (y : Party). y.client.inc) o 0) w q p d (subst (λ j. party_of j w ≡ Some p) own at)
    (λ is.
    let there : party_of d w ≡ Some p = ap (λ j. party_of j w) (sym is ∙ sym own) ∙ at in
    subst (λ o. option_map_or (λ (y : Party). y.client.inc) o 0 ≤ q.client.inc) (sym there) le)
    (λ apart. omega arith)

due_greets : (w : World) (c : ClientId) (p : Party) (h : HandlerId) → party_of c w ≡ Some p → (m : Message) → Sends p.client h m → Greets w m
due_greets w c p h at m (sends_hello left) = let is = inc_there w c p at in omega (arith, is)
due_greets w c p h at m s = tt

-- one client's incarnation grows, or stays, and nothing is sent
party_greets : (w : World) (c : ClientId) (p q : Party) (ls : List BlockLog) → Greetings w → party_of c w ≡ Some p → id_of q ≡ id_of p
    → p.client.inc ≤ q.client.inc → Greetings (record w { parties = set_party q w.parties; logs = ls })
party_greets w c p q ls i at same le =
    let v : World = record w { parties = set_party q w.parties; logs = ls } in
    greetings_more w v (record { incs = inc_set w c p q at same le; granted = λ h b g. g }) i.messages i.marks

-- ---- a handler hears

heard_mark : (bound : ClientId → ℕ) (marks : List Mark) (c : ClientId) (k : Mark) → AllByRecursion (IsMarkUpto bound) marks → mark_of c marks ≡ Some k
    → IsMarkUpto bound k
heard_mark bound marks c k all found = All-mark_of (IsMarkUpto bound) c marks k all found

-- a new mark in the place of the client's, in the same incarnation
block_mark : (bound : ClientId → ℕ) (s : HandlerState) (b : Block) (k : Mark) (stage : Stage) → AllByRecursion (IsMarkUpto bound) s.marks → IsHeardAt s b k
    → IsMarkUpto bound (fresh_mark b stage)
block_mark bound s b k stage all at = grind (arith, heard_mark, mark_of-client)

set_upto : (bound : ClientId → ℕ) (k : Mark) (marks : List Mark) → IsMarkUpto bound k → AllByRecursion (IsMarkUpto bound) marks
    → AllByRecursion (IsMarkUpto bound) (set_mark k marks)
set_upto bound k marks own all = All-set_mark (IsMarkUpto bound) (IsMarkUpto bound) k marks own (λ x apart u. u) all

-- a Hello is of an incarnation within the bound
abbrev HelloUpto : (ClientId → ℕ) → Message → Type 0
HelloUpto bound m = (h : HandlerId) (c : ClientId) (inc : ℕ) → m ≡ Hello h c inc → inc ≤ bound c

upto-row : (bound : ClientId → ℕ) (s : HandlerState) (m : Message) (h : Hearing) → Row s m h → HelloUpto bound m → AllByRecursion (IsMarkUpto bound) s.marks
    → AllByRecursion (IsMarkUpto bound) h.0.marks
upto-row bound s m h (first_greeting x c inc here none room) hello all =
    All-add_mark (IsMarkUpto bound) (IsMarkUpto bound) (greeting_mark c inc) s.marks (record { upto = hello x c inc refl }) (λ y u. u) all
upto-row bound s m h (newer_greeting x c inc k here found newer) hello all =
    set_upto bound (greeting_mark c inc) s.marks (record { upto = hello x c inc refl }) all
upto-row bound s m h (lock_granted x b k here at new free clear) hello all =
    set_upto bound (fresh_mark b AtHeld) s.marks (block_mark bound s b k AtHeld all at) all
upto-row bound s m h (is_opened x b k here at same held room) hello all = grind (arith, set_upto, heard_mark)
upto-row bound s m h (unlock_of_a_block_never_held x b k here at new clear) hello all =
    set_upto bound (fresh_mark b AtShut) s.marks (block_mark bound s b k AtShut all at) all
upto-row bound s m h (is_freed x b k here at same holds) hello all = grind (arith, set_upto, heard_mark)
upto-row bound s m h (is_taken x b n es k here at next goes_on room) hello all = grind (arith, set_upto, heard_mark)
upto-row bound s m h r hello all = all

-- a Welcome is of an incarnation that the handler's mark has reached, and no reply is a Hello
abbrev GreetsBack : HandlerState → Option Message → Type 0
GreetsBack s None = ⊤
GreetsBack s (Some (Hello x c inc)) = ⊥
GreetsBack s (Some (Welcome x c inc)) = (x ≡ s.number) × IsReachedIn s.marks (block_named c inc 0)
GreetsBack s (Some m) = ⊤

reached_at : (marks : List Mark) (c : ClientId) (inc : ℕ) (k : Mark) → mark_of c marks ≡ Some k → k.inc ≡ inc → IsReachedIn marks (block_named c inc 0)
reached_at marks c inc k found same = record { mark = k; found = found; upto = record { inc = omega (arith, same); num = λ e. omega arith } }

back-row : (s : HandlerState) (m : Message) (h : Hearing) → Row s m h → GreetsBack h.0 h.1.reply
back-row s m h (first_greeting x c inc here none room) =
    (refl, reached_at _ c inc (greeting_mark c inc) (mark_of-add_mark_own (greeting_mark c inc) s.marks none) refl)
back-row s m h (newer_greeting x c inc k here found newer) =
    (refl, reached_at _ c inc (greeting_mark c inc) (mark_of-set_mark_own (greeting_mark c inc) k s.marks found) refl)
back-row s m h (repeated_greeting x c inc k here found same) = (refl, reached_at s.marks c inc k found same)
back-row s m h r = tt

back_greets :
    (v : World) (s : Site) (o : Option Message) → site_of (number_of s) v ≡ Some s → GreetsBack s.core.state o → (m : Message) → o ≡ Some m → Greets v m
back_greets v s None here t m e = absurd (cc)
back_greets v s (Some n) here t m e = grind arith

hello_upto : (w : World) (m : Message) → Greets w m → HelloUpto (inc_of w) m
hello_upto w m g h c inc same = subst (Greets w) same g

-- one handler's marks go on
module _ (w : World) (i : Greetings w) (s old : Site) (here : site_of (number_of s) w ≡ Some old) (grows : MarksGrow old.core.state.marks s.core.state.marks)
    (ms : List Message) (js : List Block) where
  abbrev after : World
  after = record w { sites = set_site s w.sites; sent = ms; joint = js }

  site_onward : Onward w after
  site_onward = record { incs = λ d. omega arith; granted = granted_set w s old here grows }

  site_greets : MarksUpto w s → (AllByRecursion (Greets after) w.sent → AllByRecursion (Greets after) ms) → Greetings after
  site_greets upto messages = grind (arith, all_more_of, greets_more, site_onward, marks_more, all_set_site)

hears_greets : (w : World) → Greetings w → (k : ℕ) (m : Message) (s : Site) → sent_at k w ≡ Some m → site_of (handler_of m) w ≡ Some s
    → Greetings (heard_world w s (hear s.core.state m))
hears_greets w i k m s was found =
    let now : Hearing = hear s.core.state m in
    let by = row s.core.state m in
    let t : Site = heard_site s now in
    let v : World = heard_world w s now in
    let here = heard_place w m s found in
    site_greets w i t s here (grows-row s.core.state m now by) v.sent v.joint
    (upto-row (inc_of w) s.core.state m now by (hello_upto w m (sent_all w k m was (Greets w) i.messages))
    (all_found (MarksUpto w) (is_site (handler_of m)) w.sites s i.marks found))
    (λ all. all_pushed (Greets v) w.sent now.1.reply all (back_greets v t now.1.reply (site_put w t s here) (back-row s.core.state m now by)))

-- ---- an entry runs, and a node restarts

after_upto : (bound : ClientId → ℕ) (r : Ran) (marks : List Mark) → AllByRecursion (IsMarkUpto bound) marks
    → AllByRecursion (IsMarkUpto bound) (map (mark_after r) marks)
after_upto bound r = all_mapped (mark_after r) (IsMarkUpto bound) (IsMarkUpto bound) (λ k u. record { upto = u.upto })

-- ---- a client that was succeeded

-- the handler has a mark of the block's client in a newer incarnation
pub record IsPassed (w : World) (h : HandlerId) (b : Block) : Type 0 where
  pub site : Site
  pub found : site_of h w ≡ Some site
  pub mark : Mark
  pub marked : mark_of b.client site.core.state.marks ≡ Some mark
  pub newer : b.inc < mark.inc

welcome_passes : (w : World) (h : HandlerId) (b : Block) (m : Message) → Greets w m → is_newer_welcome h b m ≡ true → IsPassed w h b
welcome_passes w h b (Welcome x c inc) g e = grind (arith, and_parts, nat_lt, handler_decides, client_decides, nat_tests)
welcome_passes w h b m g e = absurd (true≢false (sym e))

any_passes :
    (w : World) (h : HandlerId) (b : Block) (ms : List Message) → AllByRecursion (Greets w) ms → list_any (is_newer_welcome h b) ms ≡ true → IsPassed w h b
any_passes w h b [] all e = absurd (true≢false (sym e))
any_passes w h b (m ∷ ms) all e = grind (arith, welcome_passes, any_passes w h b ms)

-- where a newer incarnation was welcomed, the handler's mark is of one
pub succeeded_passed : (w : World) → Greetings w → (b : Block) (h : HandlerId) → is_succeeded b h w ≡ true → IsPassed w h b
succeeded_passed w i b h e = any_passes w h b w.sent i.messages e

-- and so is the client itself
pub succeeded_inc : (w : World) → Greetings w → (b : Block) (h : HandlerId) → is_succeeded b h w ≡ true → b.inc < inc_of w b.client
succeeded_inc w i b h e =
    let p = succeeded_passed w i b h e in
    let marks = p.site.core.state.marks in
    let u = (All-mark_of (IsMarkUpto (inc_of w)) b.client marks p.mark (all_found (MarksUpto w) (is_site h) w.sites p.site i.marks p.found) p.marked).upto in
    let own = ap (inc_of w) (mark_of-client b.client marks p.mark p.marked) in
    let lt = p.newer in
    omega (arith, u, own, lt)

-- ---- all of it

pub greetings_kept : (w : World) → Ordered w → Greetings w → Changes Greetings w
greetings_kept w o i = record {
  commands = λ c p x d at is. (
      let g = goes_on w p x d is (all_found (PartyFits w) (is_party c) w.parties p o.parties at) in
      party_greets w c p (record p { client = d }) (logs_after x (newest_block d) w.logs) i at g.id (let e = g.inc in omega (arith, e)));
  sends = λ c p h s at here. (
      let v : World = with_sent w (due p.client h) in
      let more = greets_more w v (record { incs = λ d. omega arith; granted = λ j b g. g }) in
      record {
        messages = all_pushed (Greets v) w.sent (due p.client h) (all_more_of (Greets w) (Greets v) more w.sent i.messages)
            (λ m e. more m (due_greets w c p h at m (sends p.client h m e)));
        marks = i.marks;
      });
  hears = λ k m s was goes here. hears_greets w i k m s was here;
  notices = λ k m p was goes at. (
      let kept = keeps_hearing w o k m p was at in
      party_greets w (client_of m) p (heard_party p (heard p.client m)) w.logs i at kept.id (let e = kept.inc in omega (arith, e)));
  begins = λ h s t here is.
      site_greets w i (begun_site s) s (own_site w h s here) (MarksGrow-refl s.core.state.marks) w.sent w.joint
      (all_found (MarksUpto w) (is_site h) w.sites s i.marks here) (λ all. all);
  finishes = λ h s t here is.
      site_greets w i (finished_site s t) s (own_site w h s here) (MarksGrow-after (ran_of t) s.core.state.marks) w.sent w.joint
      (after_upto (inc_of w) (ran_of t) s.core.state.marks (all_found (MarksUpto w) (is_site h) w.sites s i.marks here)) (λ all. all);
  restarts = λ c p at room. (
      let stored = (all_found (PartyFits w) (is_party c) w.parties p o.parties at).stored in
      party_greets w c p (restarted_party p) w.logs i at refl (omega (arith, stored)));
  reopens = λ n.
      greetings_more w (reopened_world w n) (record { incs = λ d. omega arith; granted = λ h b. granted_anew w.joint n h b w.sites o.sites }) i.messages
      (all_anew w.joint n (MarksUpto w) (MarksUpto w) (λ s f all. by_restart w.joint n (MarksUpto w) s f all all) w.sites o.sites i.marks);
}

pub opens_greetings : (ps : List Placement) (ns : List Newcomer) → Greetings (opening ps ns)
opens_greetings ps ns = record { messages = tt; marks = all_made new_site (MarksUpto (opening ps ns)) (λ p. tt) ps }
