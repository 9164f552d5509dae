-- If no query of a client's block waits, there is none among the entries that have not run. If one waits, it is the only one. Every
-- event keeps that. So a block in which no query waits has none in the private queues of the rules.
use Rattle.scoop_rules.proofs.Names.{◌≡◌, ℕ, List, [], ◌∷◌, ◌++◌, Some, None, refl, ◌∙◌, subst, arith, ◌≤◌, Option, true, zero, suc, take, false, true≢false}
use Rattle.scoop_rules.proofs.Names.{◌||◌, length, Bool, ◌-◌, drop, list_any-append, AllByRecursion, list_any, is_query, Block, HandlerId, Entry, by_test}
use Rattle.scoop_rules.proofs.Names.{ReservationState, ClientState, World, Party, ran_at, log_of, count_of, ◌+◌, sym, ap, append-nil, Ok, if◌then◌else◌}
use Rattle.scoop_rules.proofs.Names.{length-append, take-append_seam, same_Some, handler_decides, client_decides, same_handler, Message, CallEntry, asked}
use Rattle.scoop_rules.proofs.Names.{fresh, heard, logged, Command, Call, Query, newest_block, commanded_world, with_party, heard_party, restarted_party}
use Rattle.scoop_rules.proofs.Names.{set_party, is_party, id_of, handlers_of, TellsAnswer, WindowsFit, PartyLogs, added, log_after, log_other, reserved_same}
use Rattle.scoop_rules.proofs.Names.{unreserved_empty, Notices, steps_on, is_over, gets_answer, hears, Takes, takes_reserve, takes_call, takes_query, takes_end}
use Rattle.scoop_rules.proofs.Names.{takes_give_up, takes, next_is_new, PartyFits, all_set_party, Taped, map, filter, filter-append, option_map_or, same_block}
use Rattle.scoop_rules.proofs.Names.{all_found, Ran, HasRun, untold, numbered, Site, is_site, site_of, All-contains, All-from_recursion, all_append}
use Rattle.scoop_rules.proofs.Names.{all_more_of, same_block_itself, Slot, ran_in, ran_of, SiteTaped, heard_place, find, ◌&&◌, flat_map, client_of, ClientId}
use Rattle.scoop_rules.proofs.Names.{hear, told_of, has, due, all_made, by_site, with_sent, heard_world, heard_site, with_site, begun_site, finished_site}
use Rattle.scoop_rules.proofs.Names.{reopened_world, Placement, Newcomer, new_party, opening, number_of, set_site, party_of, set_of, Answering, Changes}
use Rattle.scoop_rules.proofs.Names.{Logging, Ordered, same_block_is, own_site, Waiting, configuration_of, is_of, kept, queue_at, queue_of, seen, Seen, waits}
use Rattle.scoop_model.proofs.Names.{Request, ObjectAnswer}
use Rattle.scoop_model.proofs.Knowing.Clients.{step_block}
use Rattle.scoop_client.specs.Commands as client
use Rattle.scoop_model.proofs.Answering.Handlers.{ran_anew}
use Rattle.scoop_model.proofs.Answering.Runs.{sent_tells}
use Rattle.std.proofs.Math.ListN.{drop_of_length-le}

-- ---- what is so

abbrev pub any_query : List Entry → Bool
any_query es = list_any is_query es

-- of these entries of the block, those that have not run at the handler
abbrev pub left_of : World → Block → HandlerId → List Entry → List Entry
left_of w b h es = drop (count_of b (ran_at h w)) es

-- the entries that were logged for the handler and have not run there
abbrev pub unrun : World → Block → HandlerId → List Entry
unrun w b h = left_of w b h (log_of b h w)

-- the same of the entries before the n-th
abbrev pub unrun_before : World → Block → HandlerId → ℕ → List Entry
unrun_before w b h n = left_of w b h (take (n - 1) (log_of b h w))

-- no query of the block has not run, but the one that waits
abbrev pub AskedFor : World → Block → Option (HandlerId × ℕ) → Type 0
AskedFor w b None = (h : HandlerId) → any_query (unrun w b h) ≡ false
AskedFor w b (Some q) = ((h : HandlerId) → (q.0 ≡ h → ⊥) → any_query (unrun w b h) ≡ false) × (any_query (unrun_before w b q.0 q.1) ≡ false)

abbrev pub ClientAsked : World → ClientState → Type 0
ClientAsked w c = (r : ReservationState) → c.reservation ≡ Some r → AskedFor w r.block c.waits

pub record PartyAsked (w : World) (p : Party) : Type 0 where
  pub asked : ClientAsked w p.client

abbrev pub Asked : World → Type 0
Asked w = AllByRecursion (PartyAsked w) w.parties

-- ---- entries without a query

rest_none : (t : Bool) (es : List Entry) → (t || any_query es) ≡ false → any_query es ≡ false
rest_none true es e = absurd (true≢false e)
rest_none false es e = e

-- more entries have run
pub none_later : (m n : ℕ) (es : List Entry) → m ≤ n → any_query (drop m es) ≡ false → any_query (drop n es) ≡ false
none_later zero zero es le e = e
none_later zero (suc n) (x ∷ xs) le e = none_later zero n xs (omega arith) (rest_none (is_query x) xs e)
none_later (suc m) zero es le e = absurd (omega (arith, le))
none_later (suc m) (suc n) (x ∷ xs) le e = none_later m n xs (omega (arith, le)) e
none_later m n [] le e = refl

-- entries without a query come behind
pub none_behind : (n : ℕ) (xs ys : List Entry) → any_query (drop n xs) ≡ false → any_query ys ≡ false → any_query (drop n (xs ++ ys)) ≡ false
none_behind zero xs ys e f = list_any-append is_query xs ys ∙ (λ i. e i || f i)
none_behind (suc n) [] ys e f = none_later zero (suc n) ys (omega arith) f
none_behind (suc n) (x ∷ xs) ys e f = none_behind n xs ys e f

-- only the first of them are taken
pub none_taken : (n k : ℕ) (es : List Entry) → any_query (drop n es) ≡ false → any_query (drop n (take k es)) ≡ false
none_taken zero (suc k) (x ∷ xs) e =
    by_test (λ t. (t || any_query xs) ≡ false → (t || any_query (take k xs)) ≡ false) (is_query x)
    (λ there f. absurd (true≢false f))
    (λ other f. none_taken zero k xs f) e
none_taken (suc n) (suc k) (x ∷ xs) e = none_taken n k xs e
none_taken n k es e = refl

-- all of them have run
pub none_over : (n : ℕ) (es : List Entry) → length es ≤ n → any_query (drop n es) ≡ false
none_over n es le = ap any_query (drop_of_length-le es le)

-- ---- what goes on

-- no less of the block has run
abbrev pub RanMore : World → World → Block → Type 0
RanMore v w b = (h : HandlerId) → count_of b (ran_at h v) ≤ count_of b (ran_at h w)

module _ (v w : World) (b : Block) (same : (h : HandlerId) → log_of b h v ≡ log_of b h w) (more : RanMore v w b) where
  pub asked_more : (o : Option (HandlerId × ℕ)) → AskedFor v b o → AskedFor w b o
  asked_more None f = grind (arith, none_later, ran_at)
  asked_more (Some q) f = grind (arith, none_later, ran_at, take)

-- ---- a query that has run is among as many entries of its block that have run as its number says

abbrev is_told_of : Block → Block × ℕ × Entry → Bool
is_told_of b u = same_block u.0 b

abbrev count_told : Block → List (Block × ℕ × Entry) → ℕ
count_told b us = length (filter (is_told_of b) us)

count_same : (b : Block) (rs : List Ran) → count_of b rs ≡ count_told b (map untold rs)
count_same b [] = refl
count_same b (r ∷ rs) = grind (arith, (count_same b rs))

count_both : (b : Block) (us vs : List (Block × ℕ × Entry)) → count_told b (us ++ vs) ≡ count_told b us + count_told b vs
count_both b us vs = ap length (filter-append (is_told_of b) us vs) ∙ length-append (filter (is_told_of b) us) (filter (is_told_of b) vs)

count_own : (b : Block) (n : ℕ) (es : List Entry) → count_told b (numbered b n es) ≡ length es
count_own b n [] = refl
count_own b n (e ∷ es) =
    ap (λ t. length (if t then (b, n, e) ∷ filter (is_told_of b) (numbered b (n + 1) es) else filter (is_told_of b) (numbered b (n + 1) es)))
    (same_block_itself b)
    ∙ ap suc (count_own b (n + 1) es)

-- the number isn't above how many of the block are in the list
abbrev IsUpto : List (Block × ℕ × Entry) → Block × ℕ × Entry → Type 0
IsUpto us u = u.1 ≤ count_told u.0 us

numbers_upto :
    (us : List (Block × ℕ × Entry)) (b : Block) (n : ℕ) (es : List Entry) → n + length es ≤ count_told b us + 1 → AllByRecursion (IsUpto us) (numbered b n es)
numbers_upto us b n [] le = tt
numbers_upto us b n (e ∷ es) le = (omega (arith, le), numbers_upto us b (n + 1) es (omega (arith, le)))

all_upto : (ss : List Slot) → AllByRecursion (IsUpto (ran_of ss)) (ran_of ss)
all_upto [] = tt
all_upto (s ∷ ss) =
    let own : count_told s.block (ran_of (s ∷ ss)) ≡ length s.ran + count_told s.block (ran_of ss) =
    count_both s.block (ran_in s) (ran_of ss) ∙ ap (λ n. n + count_told s.block (ran_of ss)) (count_own s.block 1 s.ran) in
    all_append (IsUpto (ran_of (s ∷ ss))) (ran_in s) (ran_of ss)
    (numbers_upto (ran_of (s ∷ ss)) s.block 1 s.ran (omega (arith, own)))
    (all_more_of (IsUpto (ran_of ss)) (IsUpto (ran_of (s ∷ ss))) (λ u le. let both = count_both u.0 (ran_in s) (ran_of ss) in omega (arith, le, both))
    (ran_of ss) (all_upto ss))

all_told : (P : Block × ℕ × Entry → Type 0) (rs : List Ran) → AllByRecursion P (map untold rs) → AllByRecursion (λ r. P (untold r)) rs
all_told P [] all = tt
all_told P (r ∷ rs) all = (all.0, all_told P rs all.1)

ran_counts : (rs : List Ran) (ss : List Slot) → map untold rs ≡ ran_of ss → (b : Block) (n : ℕ) (a : ObjectAnswer) → HasRun rs b n a → n ≤ count_of b rs
ran_counts rs ss told b n a has =
    let us = map untold rs in
    let all : AllByRecursion (IsUpto us) us = subst (λ xs. AllByRecursion (IsUpto xs) xs) (sym told) (all_upto ss) in
    let P : Ran → Type 0 = λ r. r.number ≤ count_told r.block us in
    let at : has.ran.number ≤ count_told has.ran.block us = All-contains P rs has.ran (All-from_recursion P rs (all_told (IsUpto us) rs all)) has.at in
    let number = has.number in
    let block : count_told has.ran.block us ≡ count_of b rs = ap (λ y. count_told y us) has.block ∙ sym (count_same b rs) in
    omega (arith, at, number, block)

-- an answer of the n-th entry came once n entries of its block had run
pub answer_counts : (w : World) → Taped w → (h : HandlerId) (b : Block) (n : ℕ) (a : ObjectAnswer) → HasRun (ran_at h w) b n a → n ≤ count_of b (ran_at h w)
answer_counts w i h b n a = at (site_of h w) refl
  where
    at : (o : Option Site) → site_of h w ≡ o → HasRun (option_map_or (λ s. s.ran) o []) b n a → n ≤ count_of b (option_map_or (λ s. s.ran) o [])
    at None e has = ran_counts [] [] refl b n a has
    at (Some s) e has = let f = all_found (SiteTaped w) (is_site h) w.sites s i e in ran_counts s.ran f.slots f.tape.ran b n a has

-- ---- a client hears

-- A client's move leaves no query among the entries that have not run, except the one that waits. A client logs nothing while a
-- query waits, and it accepts an answer only for the query that waits. That query has run then. It is the log's last entry, so all
-- entries before it have run too.

-- the entries up to the query that was answered have run, and it was the last
module _ (w : World) (tape : Taped w) (c : ClientState) (r : ReservationState) (windows : WindowsFit w c r) (h : HandlerId) (n : ℕ)
    (waits : c.waits ≡ Some (h, n)) where
  all_ran : n ≤ count_of r.block (ran_at h w) → any_query (unrun w r.block h) ≡ false
  all_ran ran =
      let g = windows.waits h n waits in
      let f = windows.windows h g.window g.found in
      let long : length (f.acknowledged ++ g.window.unacked) ≡ length (log_of r.block h w) = ap length f.all in
      let parts = length-append f.acknowledged g.window.unacked in
      let count = f.count in
      let number = g.query.number in
      none_over (count_of r.block (ran_at h w)) (log_of r.block h w) (omega (arith, ran, long, parts, count, number))

  answered_asked : n ≤ count_of r.block (ran_at h w) → AskedFor w r.block c.waits → AskedFor w r.block None
  answered_asked ran f = grind (arith, handler_decides, all_ran, true≢false)

module _ (w : World) (tape : Taped w) (c : ClientState) (fits : (r : ReservationState) → c.reservation ≡ Some r → WindowsFit w c r) (f : ClientAsked w c) where
  hears_asked : (m : Message) (d : ClientState) → Notices c m d → TellsAnswer w m → ClientAsked w d
  hears_asked m d (steps_on n r s st held row) t = grind (arith, same_Some, step_block)
  hears_asked m d (is_over n) t = λ r e. absurd (cc)
  hears_asked m d (gets_answer h n a r held waits) t = λ q e.
      subst (λ (y : ReservationState). AskedFor w y.block None) (same_Some r q (sym held ∙ e))
      (answered_asked w tape c r (fits r held) h n waits (answer_counts w tape h r.block n a t) (f r held))
  hears_asked m d n t = f

-- nothing is logged, and nothing runs
same_world : (w : World) (p : Party) → Asked w → PartyAsked w p → Asked (with_party w p)
same_world w p i f =
    all_set_party (PartyAsked w) (PartyAsked (with_party w p)) p w.parties (record { asked = f.asked }) (λ y other g. record { asked = g.asked }) i

pub notices_asked : (w : World) → Taped w → Asked w → (m : Message) (p : Party) → TellsAnswer w m → PartyLogs w p → PartyAsked w p
    → Asked (with_party w (heard_party p (heard p.client m)))
notices_asked w tape i m p tells logs f =
    same_world w (heard_party p (heard p.client m)) i
    (record { asked = hears_asked w tape p.client logs.block f.asked m (heard p.client m).0 (hears p.client m) tells })

pub restarts_asked : (w : World) → Asked w → (p : Party) → Asked (with_party w (restarted_party p))
restarts_asked w i p = same_world w (restarted_party p) i (record { asked = λ r e. absurd (cc) })

-- ---- a client takes a command

abbrev no_query : Command → HandlerId → Type 0
no_query x h = any_query (added x h) ≡ false

call_none : (k h : HandlerId) (r : Request) → no_query (Call k r) h
call_none k h r = by_test (λ t. any_query (if t then CallEntry r ∷ [] else []) ≡ false) (same_handler h k) (λ here. refl) (λ there. refl)

query_elsewhere : (k h : HandlerId) (r : Request) → (k ≡ h → ⊥) → no_query (Query k r) h
query_elsewhere k h r apart = grind (arith, handler_decides)

module _ (w : World) (p : Party) (x : Command) (d : ClientState) where
  abbrev now : World
  now = commanded_world w p x d

  -- the command logs no query
  quiet_none : (b : Block) (h : HandlerId) → any_query (unrun w b h) ≡ false → no_query x h → any_query (unrun now b h) ≡ false
  quiet_none b h e none = grind (arith, none_behind, ran_at, log_after)

  -- the first entries stay
  first_stay : (b : Block) (h : HandlerId) (n : ℕ) → n ≡ length (log_of b h w) → take n (log_of b h now) ≡ log_of b h w
  first_stay b h n long = grind (arith, take, append-nil, take-append_seam, log_after)

  -- the block of another client isn't this one's
  other_asked : (y : Party) → is_party (id_of (record p { client = d })) y ≡ false → PartyLogs w y → PartyAsked w y → PartyAsked now y
  other_asked y other logs f = record {
    asked = λ r held.
        asked_more w now r.block
        (λ h. sym (log_other x (newest_block d) r.block h w.logs (λ same.
        let mine : d.id ≡ id_of y = ap (λ (z : Block). z.client) (same ∙ (logs.block r held).block) in
        true≢false (sym ((client_decides (id_of y) d.id).1 (sym mine)) ∙ other))))
        (λ h. omega arith) y.client.waits (f.asked r held);
  }

takes_asked : (w : World) (p : Party) (x : Command) (d : ClientState) → PartyFits w p → PartyLogs w p → PartyAsked w p → Takes p.client x d
    → ClientAsked (commanded_world w p x d) d
takes_asked w p x d fits logs f (takes_reserve hs at_idle begins) q held = λ h.
    let b : Block = client.next_block p.client in
    let v : World = commanded_world w p x d in
    let none : log_of b h v ≡ [] = reserved_same hs b b h w.logs ∙ unreserved_empty b h w.logs (next_is_new w p fits (handlers_of b w) refl) in
    subst (λ (y : ReservationState). any_query (unrun v y.block h) ≡ false) (same_Some (fresh b hs) q held)
    (subst (λ es. any_query (left_of w b h es) ≡ false) (sym none) (none_later 0 (count_of b (ran_at h w)) [] (omega arith) refl))
takes_asked w p x d fits logs f (takes_call k s l running free window room) r held = λ h.
    quiet_none w p x d r.block h ((subst (AskedFor w r.block) free (f.asked r held)) h) (call_none k h s)
takes_asked w p x d fits logs f (takes_query k s l running free window room) r held =
    let none = subst (AskedFor w r.block) free (f.asked r held) in
    let own = (logs.block r held).windows k l window in
    let all : length (own.acknowledged ++ l.unacked) ≡ length (log_of r.block k w) = ap length own.all in
    let parts = length-append own.acknowledged l.unacked in
    let count = own.count in
    let number : (logged l + 1) - 1 ≡ length (log_of r.block k w) = omega (arith, all, parts, count) in (
      (λ h apart. quiet_none w p x d r.block h (none h) (query_elsewhere k h s apart)),
      subst (λ es. any_query (left_of w r.block k es) ≡ false) (sym (first_stay w p x d r.block k ((logged l + 1) - 1) number)) (none k),
    )
takes_asked w p x d fits logs f (takes_end running free) r held = λ h. quiet_none w p x d r.block h ((subst (AskedFor w r.block) free (f.asked r held)) h) refl
takes_asked w p x d fits logs f (takes_give_up r own at) q is = grind (arith, same_Some, asked)

all_set_beside : (P Q R : Party → Type 0) (p : Party) (parties : List Party) → R p → ((y : Party) → is_party (id_of p) y ≡ false → P y → Q y → R y)
    → AllByRecursion P parties → AllByRecursion Q parties
    → AllByRecursion R (set_party p parties)
all_set_beside P Q R p [] own others all beside = tt
all_set_beside P Q R p (y ∷ ys) own others all beside = grind (arith, (all_set_beside P Q R p ys own others all.1 beside.1))

pub commands_asked :
    (w : World) → Asked w → AllByRecursion (PartyLogs w) w.parties → (p : Party) (x : Command) (d : ClientState) → PartyFits w p → PartyLogs w p
    → PartyAsked w p
    → client.command p.client x ≡ Ok d → Asked (commanded_world w p x d)
commands_asked w i logs p x d fits own f e =
    all_set_beside (PartyLogs w) (PartyAsked w) (PartyAsked (commanded_world w p x d)) (record p { client = d }) w.parties
    (record { asked = takes_asked w p x d fits own f (takes p.client d x e) })
    (other_asked w p x d) logs i

-- ---- what a handler does

-- nothing is logged, and no less has run
goes_on :
    (v w : World) → v.logs ≡ w.logs → ((b : Block) → RanMore v w b) → (ps : List Party) → AllByRecursion (PartyAsked v) ps → AllByRecursion (PartyAsked w) ps
goes_on v w same more ps = all_more_of (PartyAsked v) (PartyAsked w)
    (λ p f.
    record {
      asked = λ r held. asked_more v w r.block (λ h. ap (λ ls. log_of r.block h (record v { logs = ls })) same) (more r.block) p.client.waits (f.asked r held);
    }) ps

abbrev count_in : Block → Option Site → ℕ
count_in b o = count_of b (option_map_or (λ s. s.ran) o [])

count_set : (w : World) (s old : Site) → site_of (number_of s) w ≡ Some old → (b : Block) → count_of b old.ran ≤ count_of b s.ran → (h : HandlerId)
    → count_of b (ran_at h w) ≤ count_in b (find (is_site h) (set_site s w.sites))
count_set w s old here b le h =
    by_site (λ o. count_of b (ran_at h w) ≤ count_in b o) w s old h here
    (λ same.
    let found : site_of h w ≡ Some old = ap (λ j. site_of j w) (sym same) ∙ here in
    subst (λ o. count_in b o ≤ count_of b s.ran) (sym found) le)
    (λ apart. omega arith)

count_more : (b : Block) (rs : List Ran) (r : Ran) → count_of b rs ≤ count_of b (rs ++ r ∷ [])
count_more b rs r = grind (arith, filter-append, length-append)

-- ---- every event keeps it

pub asked_kept : (w : World) → Ordered w → Logging w → Answering w → Taped w → Asked w → Changes Asked w
asked_kept w o l a tape i = record {
  commands = λ c p x d at is.
      commands_asked w i l.parties p x d (all_found (PartyFits w) (is_party c) w.parties p o.parties at)
      (all_found (PartyLogs w) (is_party c) w.parties p l.parties at)
      (all_found (PartyAsked w) (is_party c) w.parties p i at) is;
  sends = λ c p h s at here. goes_on w (with_sent w (due p.client h)) refl (λ b h. omega arith) w.parties i;
  hears = λ k m s was goes here.
      let now = hear s.core.state m in
      goes_on w (heard_world w s now) refl (λ b h. count_set w (heard_site s now) s (heard_place w m s here) b (omega arith) h) w.parties i;
  notices = λ k m p was goes at.
      notices_asked w tape i m p (sent_tells w k m was a.messages) (all_found (PartyLogs w) (is_party (client_of m)) w.parties p l.parties at)
      (all_found (PartyAsked w) (is_party (client_of m)) w.parties p i at);
  begins = λ h s t here is. goes_on w (with_site w (begun_site s)) refl (λ b x. count_set w (begun_site s) s (own_site w h s here) b (omega arith) x) w.parties i;
  finishes = λ h s t here is. goes_on w (with_site w (finished_site s t)) refl
      (λ b x. count_set w (finished_site s t) s (own_site w h s here) b (count_more b s.ran (told_of t)) x) w.parties i;
  restarts = λ c p at room. restarts_asked w i p;
  reopens = λ n. goes_on w (reopened_world w n) refl (λ b h. let same = ap (count_of b) (ran_anew w.joint n h w.sites o.sites) in omega (arith, same))
      w.parties i;
}

pub opens_asked : (ps : List Placement) (ns : List Newcomer) → Asked (opening ps ns)
opens_asked ps ns = all_made new_party (PartyAsked (opening ps ns)) (λ n. record { asked = λ r e. absurd (cc) }) ns

-- ---- what it shows

-- no query of the block waits in the block's own private queue
queue_none : (b : Block) (s : Seen) → any_query (drop s.count s.logged) ≡ false → waits b (queue_of b s) ≡ false
queue_none b s none = grind (arith, kept, take, none_taken)

-- nor in that of another
queue_other : (b y : Block) (s : Seen) → same_block y b ≡ false → waits b (queue_of y s) ≡ false
queue_other b y s other = grind (arith, kept)

queues_none : (w : World) (b : Block) (h : HandlerId) → any_query (unrun w b h) ≡ false → (js : List Block) → waits b (flat_map (queue_at w h) js) ≡ false
queues_none w b h none [] = refl
queues_none w b h none (y ∷ ys) =
    list_any-append (λ (q : Waiting). is_of b q && list_any is_query q.entries) (queue_at w h y) (flat_map (queue_at w h) ys)
    ∙ (λ i. first i || queues_none w b h none ys i)
  where
    first : waits b (queue_at w h y) ≡ false
    first = by_test (λ t. waits b (if t then queue_of y (seen y h w) else []) ≡ false) (has (set_of y w) h)
        (λ named. by_test (λ _. waits b (queue_of y (seen y h w)) ≡ false) (same_block y b)
        (λ is. subst (λ z. waits b (queue_of z (seen z h w)) ≡ false) (sym (same_block_is y b is)) (queue_none b (seen b h w) none))
        (λ is. queue_other b y (seen y h w) is))
        (λ elsewhere. refl)

-- where no query of the client waits, none of its block waits in the rules
pub none_waits :
    (w : World) → Asked w → (c : ClientId) (p : Party) (r : ReservationState) → party_of c w ≡ Some p → p.client.reservation ≡ Some r → p.client.waits ≡ None
    → (h : HandlerId) → waits r.block ((configuration_of w).queues h) ≡ false
none_waits w i c p r at held free h = grind (arith, all_found, queues_none)
