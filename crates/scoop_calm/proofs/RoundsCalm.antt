-- As many rounds as are left to do lead to a calm world.
use Rattle.scoop_calm.proofs.Names.{◌≡◌, ℕ, ◌+◌, ◌-◌, ◌<◌, ◌≤◌, ◌==◌, IsTrue, List, [], ◌∷◌, ◌++◌, length, Option, Some, None, refl, sym, ap, ◌∙◌, subst}
use Rattle.scoop_calm.proofs.Names.{⊎_elim, arith, append_assoc, append-nil, slice_get, if◌then◌else◌, option_to_list, Ok, Err, AllByRecursion, Message, hear}
use Rattle.scoop_calm.proofs.Names.{due, Event, WorldNote, World, sent_at, Stepped, step, IsReached, Leads, Run, next, run_after, steps, by_test, Changes, Kept}
use Rattle.scoop_calm.proofs.Names.{event_kept, reached_more, left, Member, goes_on, Calm, zero, suc, ◌⊎◌, inl, inr, Bool, true, false, true≢false, nat_lt}
use Rattle.scoop_calm.proofs.Names.{length-append, nat_tests, same_Some, is_some, IfSome, option_map_or, ClientId, HandlerId, same_client, same_handler}
use Rattle.scoop_calm.proofs.Names.{handler_of, client_of, is_for_handler, handler_decides, client_decides, Core, with_state, HandlerState, Hearing, number-row}
use Rattle.scoop_calm.proofs.Names.{row, ClientState, Notice, heard, DoEnd, Do, Tick, Take, Begin, Finish, Site, Party, number_of, id_of, site_of, party_of}
use Rattle.scoop_calm.proofs.Names.{taken, taken_by_handler, taken_by_client, tick_at, with_sent, place_of, sent_or_silent, heard_site, heard_party}
use Rattle.scoop_calm.proofs.Names.{heard_world, with_party, id_found, site_put, sites_apart, parties_apart, own_site, Next, events_of, can_do, place_in}
use Rattle.scoop_calm.proofs.Names.{sent_by, IsTaken, IsAsked, Round, Rounds, none, one_more, stays}
use Rattle.scoop_calm.proofs.Places.{Alike, alike_self, alike_on, left_alike, alike_back, not_less, site_alike, party_alike, heard_id}
use Rattle.scoop_calm.proofs.Stepping.{calm_stays, event_descends, less_or_alike, Descends}
use Rattle.scoop_model.specs.declared.note.WorldNote.TheVariants as note
use Rattle.scoop_calm.specs.declared.next.Next.TheVariants as next
use Rattle.scoop_calm.proofs.Everything.{party_put}
use Rattle.scoop_calm.proofs.Chosen.{IsChoice, finishes, begins, asks, ends}
use Rattle.scoop_calm.proofs.Moves.{party_found, site_found, Helps, Useful, sent_last}
use Rattle.scoop_calm.proofs.NeverStuck.{settles_leads, calm_or}
use Rattle.scoop_calm.proofs.Lists.{distinct, map_newer}

-- -------- The worlds along a list of events, none of which is refused or restarts a party. The last world has no more left than
-- the first. If it has as much left, the clients and the handlers stood still all along.

abbrev pub Path : World → List Event → World → Type 0
Path w [] v = w ≡ v
Path w (e ∷ es) v = (x : World × WorldNote) × (step w e ≡ Ok x) × Path x.0 es v

abbrev pub AllGoOn : List Event → Type 0
AllGoOn es = AllByRecursion (λ e. IsTrue (goes_on e)) es

-- ---- a path, and the events that lead on

path_from : (n : ℕ) (w v : World) (es : List Event) → run_after n w es ≡ (v, Ok (n + length es)) → Path w es v
path_from n w v [] is = ap (λ (y : Run). y.0) is
path_from n w v (e ∷ es) is = by_step (λ x f. path_from (n + 1) x v es f) (step w e) refl is
  where
    by_step : ((x : World) → run_after (n + 1) x es ≡ (v, Ok (n + 1 + length es)) → Path x es v) → (o : Stepped) → step w e ≡ o → next n w
        (λ u. run_after (n + 1) u es) o ≡ (v, Ok (n + length (e ∷ es))) → Path w (e ∷ es) v
    by_step later (Err x) at f = absurd (let g = ap (λ (y : Run). y.1) f in cc)
    by_step later (Ok x) at f =
        let made : ℕ → Run = λ k. (v, Ok k) in
        let same : n + length (e ∷ es) ≡ n + 1 + length es = omega arith in
        (x, at, later x.0 (f ∙ ap made same))

pub path_of : (w v : World) (es : List Event) → Leads w es v → Path w es v
path_of w v es leads =
    let made : ℕ → Run = λ k. (v, Ok k) in
    let none : length es ≡ 0 + length es = omega arith in
    path_from 0 w v es (leads ∙ ap made none)

path_run : (n : ℕ) (w v : World) (es : List Event) → Path w es v → (run_after n w es).0 ≡ v
path_run n w v [] p = p
path_run n w v (e ∷ es) p = ap (λ o. (next n w (λ u. run_after (n + 1) u es) o).0) p.1 ∙ path_run (n + 1) p.0.0 v es p.2

pub path_steps : (w v : World) (es : List Event) → Path w es v → steps w es ≡ v
path_steps w v es p = path_run 0 w v es p

pub path_reached : (w v : World) (es : List Event) → IsReached w → Path w es v → IsReached v
path_reached w v [] r p = subst IsReached p r
path_reached w v (e ∷ es) r p = path_reached p.0.0 v es (reached_more w e p.0 r p.1) p.2

pub path_split : (w v : World) (xs ys : List Event) → Path w (xs ++ ys) v → (x : World) × Path w xs x × Path x ys v
path_split w v [] ys p = (w, refl, p)
path_split w v (e ∷ xs) ys p = let s = path_split p.0.0 v xs ys p.2 in (s.0, (p.0, p.1, s.1), s.2)

pub all_split : (xs ys : List Event) → AllGoOn (xs ++ ys) → AllGoOn xs × AllGoOn ys
all_split [] ys all = (tt, all)
all_split (e ∷ xs) ys all = let s = all_split xs ys all.1 in ((all.0, s.0), s.1)

pub path_join : (w x v : World) (xs : List Event) (e : Event) (t : WorldNote) → Path w xs x → step x e ≡ Ok (v, t) → Path w (xs ++ e ∷ []) v
path_join w x v [] e t p is = ((v, t), ap (λ y. step y e) p ∙ is, refl)
path_join w x v (y ∷ xs) e t p is = (p.0, p.1, path_join p.0.0 x v xs e t p.2 is)

-- ---- what is left

pub never_more : (w v : World) (es : List Event) → IsReached w → AllGoOn es → Path w es v → left v ≤ left w
never_more w v [] r all p = let same = ap left p in omega (arith, same)
never_more w v (e ∷ es) r all p =
    let x = p.0.0 in
    let rest = never_more x v es (reached_more w e p.0 r p.1) all.1 p.2 in
    ⊎_elim (λ (less : left x < left w). omega (arith, less, rest))
    (λ (a : Alike x w). let same = left_alike x w a in omega (arith, same, rest))
    (less_or_alike e w x all.0 (event_descends w r e p.0 all.0 p.1))

pub stands_still : (w v : World) (es : List Event) → IsReached w → AllGoOn es → Path w es v → left w ≤ left v → Alike v w
stands_still w v [] r all p as_much = subst (λ x. Alike x w) p (alike_self w)
stands_still w v (e ∷ es) r all p as_much =
    let x = p.0.0 in
    let xr = reached_more w e p.0 r p.1 in
    ⊎_elim
    (λ (less : left x < left w). let rest = never_more x v es xr all.1 p.2 in absurd (omega (arith, less, rest, as_much)))
    (λ (a : Alike x w). let same = left_alike x w a in alike_on v x w (stands_still x v es xr all.1 p.2 (omega (arith, same, as_much))) a)
    (less_or_alike e w x all.0 (event_descends w r e p.0 all.0 p.1))

pub stays_calm : (w v : World) (es : List Event) → IsReached w → AllGoOn es → Path w es v → Calm w → Calm v
stays_calm w v [] r all p calm = subst Calm p calm
stays_calm w v (e ∷ es) r all p calm = stays_calm p.0.0 v es (reached_more w e p.0 r p.1) all.1 p.2 (calm_stays w r calm e p.0 all.0 p.1)

-- ---- what was sent

-- a message that was sent stays sent, at its place
abbrev SentOn : List Message → World → Type 0
SentOn ms w = (more : List Message) × (w.sent ≡ ms ++ more)

sent_kept : (ms : List Message) (w : World) → SentOn ms w → Changes (SentOn ms) w
sent_kept ms w k = record {
  commands = λ c p x d at is. k;
  sends = λ c p h s at here. pushed (due p.client h);
  hears = λ i m s was goes here. pushed (hear s.core.state m).1.reply;
  notices = λ i m p was goes at. k;
  begins = λ h s t here is. k;
  finishes = λ h s t here is. k;
  restarts = λ c p at room. k;
  reopens = λ n. k;
}
  where
    pushed : (o : Option Message) → (more : List Message) × (w.sent ++ option_to_list o ≡ ms ++ more)
    pushed o = (k.0 ++ option_to_list o, ap (λ xs. xs ++ option_to_list o) k.1 ∙ append_assoc ms k.0 (option_to_list o))

path_sent : (ms : List Message) (w v : World) (es : List Event) → Path w es v → SentOn ms w → SentOn ms v
path_sent ms w v [] p k = subst (SentOn ms) p k
path_sent ms w v (e ∷ es) p k =
    let on : Kept (SentOn ms) (Ok p.0) = subst (Kept (SentOn ms)) p.1 (event_kept (SentOn ms) w (sent_kept ms w k) e) in
    path_sent ms p.0.0 v es p.2 on

still_there : (ms more : List Message) (i : ℕ) (m : Message) → slice_get ms i ≡ Some m → slice_get (ms ++ more) i ≡ Some m
still_there [] more i m e = absurd (cc)
still_there (x ∷ xs) more zero m e = e
still_there (x ∷ xs) more (suc i) m e = still_there xs more i m e

pub sent_stays : (w v : World) (es : List Event) (i : ℕ) (m : Message) → Path w es v → sent_at i w ≡ Some m → sent_at i v ≡ Some m
sent_stays w v es i m p was =
    let k = path_sent w.sent w v es p ([], sym (append-nil w.sent)) in
    by_test (λ t. (if t then None else slice_get w.sent (i - 1)) ≡ Some m → (if t then None else slice_get v.sent (i - 1)) ≡ Some m) (i == 0)
    (λ nowhere e. absurd (cc))
    (λ there e. ap (λ xs. slice_get xs (i - 1)) k.1 ∙ still_there w.sent k.0 (i - 1) m e) was

-- ---- an event of a list

pub split_at : (e : Event) (es : List Event) → Member e es → (before : List Event) × (rest : List Event) × (es ≡ before ++ e ∷ rest)
split_at e [] m = absurd m
split_at e (x ∷ xs) m =
    ⊎_elim (λ (same : x ≡ e). ([], xs, ap (λ y. y ∷ xs) same))
    (λ (k : Member e xs). let s = split_at e xs k in (x ∷ s.0, s.1, ap (λ ys. x ∷ ys) s.2)) m

-- an event on the way where nothing falls: the worlds before and after it are like the first one
pub record OnWay (u : World) (before : List Event) (e : Event) (rest : List Event) (v : World) : Type 0 where
  pub at : World
  pub next : World
  pub told : WorldNote
  pub to : Path u before at
  pub takes : step at e ≡ Ok (next, told)
  pub from : Path next rest v
  pub reached : IsReached at
  pub before_alike : Alike at u
  pub next_alike : Alike next at

pub on_way : (u v : World) (before : List Event) (e : Event) (rest : List Event) → IsReached u → AllGoOn (before ++ e ∷ rest) → Path u (before ++ e ∷ rest) v
    → left u ≤ left v → OnWay u before e rest v
on_way u v before e rest r all p as_much =
    let s = path_split u v before (e ∷ rest) p in
    let a = all_split before (e ∷ rest) all in
    let x = s.0 in
    let y = s.2.0 in
    let xr = path_reached u x before r s.1 in
    record {
      at = x;
      next = y.0;
      told = y.1;
      to = s.1;
      takes = s.2.1;
      from = s.2.2;
      reached = xr;
      before_alike = stands_still u x before r a.0 s.1 (omega (arith, as_much, never_more x v (e ∷ rest) xr a.1 s.2));
      next_alike = stands_still x y.0 (e ∷ []) xr (a.1.0, tt) (y, s.2.1, refl)
          (omega (arith, as_much, never_more u x before r a.0 s.1, never_more y.0 v rest (reached_more x e y xr s.2.1) a.1.1 s.2.2));
    }

-- -------- Each round of a world that isn't calm leaves less. Suppose not: then everything stands still in the round. A world
-- that isn't calm has a useful event, and every round contains it, so that event changes nothing. But it leaves less to
-- do.

-- ---- a message is taken in two worlds that are alike

-- both replies are the same, and where one world stays as it was, so does the other
record TakenAlike (v w : World) (o : Stepped) (a b : World × WorldNote) : Type 0 where
  reply : Option Message
  takes : o ≡ Ok a
  first : a.0.sent ≡ v.sent ++ option_to_list reply
  second : b.0.sent ≡ w.sent ++ option_to_list reply
  place : place_in a.1 ≡ place_of v reply
  still : Alike a.0 v → Alike b.0 w

module _ (v w : World) (vr : IsReached v) (wr : IsReached w) (a : Alike v w) where
  -- a handler that hears it is as it was
  core_still : (s : Site) (m : Message) → site_of (handler_of m) v ≡ Some s → Alike (heard_world v s (hear s.core.state m)) v
      → (hear s.core.state m).0 ≡ s.core.state
  core_still s m here still =
      let now : Hearing = hear s.core.state m in
      let t : Site = heard_site s now in
      let own = own_site v (handler_of m) s here in
      let there : site_of (number_of t) v ≡ Some s = ap (λ j. site_of j v) (number-row s.core.state m now (row s.core.state m)) ∙ own in
      let found = site_alike (heard_world v s now) v (number_of t) t still (site_put v t s there) in
      let one : found.0 ≡ s = same_Some found.0 s (sym found.1 ∙ there) in
      let same : t.core ≡ s.core = sym found.2 ∙ ap (λ (x : Site). x.core) one in
      ap (λ (k : Core). k.state) same

  hears_alike : (m : Message) (s t : Site) → site_of (handler_of m) v ≡ Some s → site_of (handler_of m) w ≡ Some t → s.core ≡ t.core
      → Alike (heard_world v s (hear s.core.state m)) v → Alike (heard_world w t (hear t.core.state m)) w
  hears_alike m s t here there same still =
      let now : Hearing = hear t.core.state m in
      let x : Site = heard_site t now in
      let state : now.0 ≡ t.core.state = subst (λ (k : Core). (hear k.state m).0 ≡ k.state) same (core_still s m here still) in
      let number = number-row t.core.state m now (row t.core.state m) in
      let own : site_of (number_of x) w ≡ Some t = ap (λ j. site_of j w) number ∙ own_site w (handler_of m) t there in
      record {
        cores = map_newer number_of same_handler handler_decides (λ (y : Site). y.core) x t w.sites
            (distinct number_of same_handler handler_decides w.sites (sites_apart w wr)) own (ap (λ (y : HandlerState). with_state y t.core) state);
        clients = refl;
        logs = refl;
      }

  notices_alike : (m : Message) (p q : Party) → party_of (client_of m) v ≡ Some p → party_of (client_of m) w ≡ Some q → p.client ≡ q.client
      → Alike (with_party v (heard_party p (heard p.client m))) v → Alike (with_party w (heard_party q (heard q.client m))) w
  notices_alike m p q at there same still =
      let d : Notice = heard q.client m in
      let x : Party = heard_party p (heard p.client m) in
      let y : Party = heard_party q d in
      let id : id_of x ≡ id_of p = heard_id p.client m in
      let own : party_of (id_of x) v ≡ Some p = ap (λ c. party_of c v) (id ∙ id_found (client_of m) v p at) ∙ at in
      let found = party_alike (with_party v x) v (id_of x) x still (party_put v (client_of m) p x at id) in
      let one : found.0 ≡ p = same_Some found.0 p (sym found.1 ∙ own) in
      let state : (heard p.client m).0 ≡ p.client = sym found.2 ∙ ap (λ (z : Party). z.client) one in
      let now : d.0 ≡ q.client = subst (λ (c : ClientState). (heard c m).0 ≡ c) same state in
      let own_now : party_of (id_of y) w ≡ Some q = ap (λ c. party_of c w) (heard_id q.client m ∙ id_found (client_of m) w q there) ∙ there in
      record {
        cores = refl;
        clients = map_newer id_of same_client client_decides (λ (z : Party). z.client) y q w.parties
            (distinct id_of same_client client_decides w.parties (parties_apart w wr)) own_now now;
        logs = refl;
      }

  -- the message stands at these places
  module _ (i j : ℕ) (m : Message) (was : sent_at i v ≡ Some m) (now : sent_at j w ≡ Some m) where
    abbrev by_kind : World → Bool → Stepped
    by_kind x t = if t then taken_by_handler x m (site_of (handler_of m) x) else taken_by_client x m (party_of (client_of m) x)

    by_handler : is_for_handler m ≡ true → (b : World × WorldNote) → step w (Take j) ≡ Ok b → (a : World × WorldNote) × TakenAlike v w (step v (Take i)) a b
    by_handler goes b is = from (site_of (handler_of m) w) refl (sym (ap (taken w) now ∙ ap (by_kind w) goes) ∙ is)
      where
        from : (o : Option Site) → site_of (handler_of m) w ≡ o → taken_by_handler w m o ≡ Ok b → (a : World × WorldNote) × TakenAlike v w (step v (Take i)) a b
        from None e f = absurd (cc)
        from (Some t) e f =
            let s = site_alike w v (handler_of m) t (alike_back v w a) e in
            let old : Hearing = hear s.0.core.state m in
            let new : Hearing = hear t.core.state m in
            let same : (heard_world w t new, note.Handler new.1.note (place_of w new.1.reply)) ≡ b = cc in
            let reply : new.1.reply ≡ old.1.reply = ap (λ (k : Core). (hear k.state m).1.reply) (sym s.2) in (
              (heard_world v s.0 old, note.Handler old.1.note (place_of v old.1.reply)),
              record {
                reply = old.1.reply;
                takes = ap (taken v) was ∙ ap (by_kind v) goes ∙ ap (taken_by_handler v m) s.1;
                first = refl;
                second = ap (λ (x : World × WorldNote). x.0.sent) (sym same) ∙ ap (λ o. w.sent ++ option_to_list o) reply;
                place = refl;
                still = λ k. subst (λ (x : World × WorldNote). Alike x.0 w) same (hears_alike m s.0 t s.1 e s.2 k);
              },
            )

    by_client : is_for_handler m ≡ false → (b : World × WorldNote) → step w (Take j) ≡ Ok b → (a : World × WorldNote) × TakenAlike v w (step v (Take i)) a b
    by_client goes b is = from (party_of (client_of m) w) refl (sym (ap (taken w) now ∙ ap (by_kind w) goes) ∙ is)
      where
        from : (o : Option Party) → party_of (client_of m) w ≡ o → taken_by_client w m o ≡ Ok b → (a : World × WorldNote) × TakenAlike v w (step v (Take i)) a b
        from None e f = absurd (cc)
        from (Some q) e f =
            let p = party_alike w v (client_of m) q (alike_back v w a) e in
            let old : Notice = heard p.0.client m in
            let new : Notice = heard q.client m in
            let same : (with_party w (heard_party q new), note.Client new.1) ≡ b = cc in (
              (with_party v (heard_party p.0 old), note.Client old.1),
              record {
                reply = None;
                takes = ap (taken v) was ∙ ap (by_kind v) goes ∙ ap (taken_by_client v m) p.1;
                first = sym (append-nil v.sent);
                second = ap (λ (x : World × WorldNote). x.0.sent) (sym same) ∙ sym (append-nil w.sent);
                place = refl;
                still = λ k. subst (λ (x : World × WorldNote). Alike x.0 w) same (notices_alike m p.0 q p.1 e p.2 k);
              },
            )

    taken_alike : (b : World × WorldNote) → step w (Take j) ≡ Ok b → (a : World × WorldNote) × TakenAlike v w (step v (Take i)) a b
    taken_alike b is =
        by_test (λ _. (a : World × WorldNote) × TakenAlike v w (step v (Take i)) a b) (is_for_handler m)
        (λ goes. by_handler goes b is) (λ goes. by_client goes b is)

-- ---- places of messages

-- a client sends what it owes
tick_is : (w : World) (p : Party) (s : Site) (c : ClientId) (h : HandlerId) (m : Message) → party_of c w ≡ Some p → site_of h w ≡ Some s
    → due p.client h ≡ Some m
    → step w (Tick c h) ≡ Ok (with_sent w (Some m), note.Sent (length w.sent + 1))
tick_is w p s c h m at here owes = (λ i. tick_at w h (at i) (here i)) ∙ ap (λ o. Ok (with_sent w o, sent_or_silent (place_of w o))) owes

sent_new : (w : World) (ms : List Message) (m : Message) → w.sent ≡ ms ++ m ∷ [] → sent_at (length ms + 1) w ≡ Some m
sent_new w ms m e = ap (λ xs. sent_at (length ms + 1) (record w { sent = xs })) e ∙ sent_last w ms m

past : (ms : List Message) (i : ℕ) → length ms ≤ i → slice_get ms i ≡ None
past [] i le = refl
past (x ∷ xs) zero le = absurd (omega (arith, le))
past (x ∷ xs) (suc i) le = past xs i (omega (arith, le))

-- no message stands there yet
none_sent : (w : World) (i : ℕ) → length w.sent < i → sent_at i w ≡ None
none_sent w i later =
    by_test (λ t. (if t then None else slice_get w.sent (i - 1)) ≡ None) (i == 0) (λ _. refl) (λ _. past w.sent (i - 1) (omega (arith, later)))

ok_same : (x y : World × WorldNote) → ◌≡◌ {A = Stepped} (Ok x) (Ok y) → x ≡ y
ok_same x y e = cc

-- ---- what a move leaves

kinds_of : (w : World) (x : Next) → AllGoOn (events_of w x)
kinds_of w (next.Ask c h) = (refl, (refl, (refl, tt)))
kinds_of w x = (refl, tt)

helps_path : (w : World) (x : Next) (h : Helps w x) → Path w (events_of w x) h.after
helps_path w x h =
    let es : List Event = events_of w x in
    subst (λ xs. Path w xs h.after) (append-nil es) (path_of w h.after (es ++ []) (settles_leads w h.after (es ++ []) (h.goes [] h.after (stays h.after))))

less_or : (a b : ℕ) → (b ≤ a → ⊥) → a < b
less_or a b never =
    by_test (λ _. a < b) (nat_lt a b) (λ is. grind (arith, nat_tests))
    (λ is. absurd (never (let le : b ≤ a = grind (arith, nat_tests) in le)))

pub helps_falls : (w : World) → IsReached w → (x : Next) (h : Helps w x) → left h.after < left w
helps_falls w r x h =
    less_or (left h.after) (left w) (λ as_much.
    not_less h.after w (stands_still w h.after (events_of w x) r (kinds_of w x) (helps_path w x h) as_much) h.less)

-- ---- a round that leaves as much

module _ (u : World) (r : IsReached u) (v : World) (es : List Event) (round : Round u es) (p : Path u es v) (as_much : left u ≤ left v) where
  on_round : (before : List Event) (e : Event) (rest : List Event) → es ≡ before ++ e ∷ rest → OnWay u before e rest v
  on_round before e rest is = on_way u v before e rest r (subst AllGoOn is round.kinds) (subst (λ xs. Path u xs v) is p) as_much

  -- no event that always leaves less is in it
  not_in : (e : Event) → goes_on e ≡ true → ((w x : World) → Descends e w x → left x < left w) → Member e es → ⊥
  not_in e on falls m =
      let s = split_at e es m in
      let o = on_round s.0 e s.1 s.2 in
      absurd (omega (arith, falls o.at o.next (event_descends o.at o.reached e (o.next, o.told) on o.takes), left_alike o.next o.at o.next_alike))

  -- a client asks, and the handler and the client stand still
  module _ (q : Party) (s : Site) (at : party_of (id_of q) u ≡ Some q) (here : site_of (number_of s) u ≡ Some s) (m : Message)
      (owes : due q.client (number_of s) ≡ Some m) (helps : Helps u (next.Ask (id_of q) (number_of s))) where
    abbrev c : ClientId
    c = id_of q

    abbrev h : HandlerId
    h = number_of s

    abbrev i : ℕ
    i = length u.sent + 1

    abbrev sent : World
    sent = with_sent u (Some m)

    sent_step : step u (Tick c h) ≡ Ok (sent, note.Sent i)
    sent_step = tick_is u q s c h m at here owes

    sent_reached : IsReached sent
    sent_reached = reached_more u (Tick c h) (sent, note.Sent i) r sent_step

    sent_alike : Alike sent u
    sent_alike = record { cores = refl; clients = refl; logs = refl }

    own_path : Path sent (Take i ∷ Take (length u.sent + 2) ∷ []) helps.after
    own_path =
        let own = helps_path u (next.Ask c h) helps in
        let same = ok_same own.0 (sent, note.Sent i) (sym own.1 ∙ sent_step) in
        subst (λ (x : World × WorldNote). Path x.0 (Take i ∷ Take (length u.sent + 2) ∷ []) helps.after) same own.2

    abbrev answered : World × WorldNote
    answered = own_path.0

    asked : IsAsked u es c h
    asked = round.asks c h q s at here (ap is_some owes)

    -- it sends in the round as in the world before
    asking : OnWay u asked.before (Tick c h) asked.rest v
    asking = on_round asked.before (Tick c h) asked.rest asked.is

    abbrev x : World
    x = asking.at

    abbrev j : ℕ
    j = length x.sent + 1

    abbrev y : World
    y = with_sent x (Some m)

    asks_step : step x (Tick c h) ≡ Ok (y, note.Sent j)
    asks_step =
        let a = alike_back x u asking.before_alike in
        let own = party_alike u x c q a at in
        let there = site_alike u x h s a here in
        tick_is x own.0 there.0 c h m own.1 there.1 (ap (λ d. due d h) own.2 ∙ owes)

    asks_next : ◌≡◌ {A = World × WorldNote} (asking.next, asking.told) (y, note.Sent j)
    asks_next = ok_same (asking.next, asking.told) (y, note.Sent j) (sym asking.takes ∙ asks_step)

    y_reached : IsReached y
    y_reached = reached_more x (Tick c h) (y, note.Sent j) asking.reached asks_step

    y_alike : Alike y u
    y_alike = alike_on y x u (record { cores = refl; clients = refl; logs = refl }) asking.before_alike

    y_path : Path y asked.rest v
    y_path = subst (λ (z : World × WorldNote). Path z.0 asked.rest v) asks_next asking.from

    y_kinds : AllGoOn asked.rest
    y_kinds = (all_split asked.before (Tick c h ∷ asked.rest) (subst AllGoOn asked.is round.kinds)).1.1

    y_much : left y ≤ left v
    y_much = let same = left_alike y u y_alike in omega (arith, same, as_much)

    -- the handler takes the message
    taken_there : IsTaken y asked.rest j
    taken_there =
        let to : steps u asked.before ≡ x = path_steps u x asked.before asking.to in
        let on : steps u (asked.before ++ Tick c h ∷ []) ≡ y =
        path_steps u y (asked.before ++ Tick c h ∷ []) (path_join u x y asked.before (Tick c h) (note.Sent j) asking.to asks_step) in
        let place : sent_by (step (steps u asked.before) (Tick c h)) ≡ Some j = ap (λ w. sent_by (step w (Tick c h))) to ∙ ap sent_by asks_step in
        subst (λ w. IsTaken w asked.rest j) on
        (subst (λ o. IfSome o (IsTaken (steps u (asked.before ++ Tick c h ∷ [])) asked.rest)) place asked.taken)

    abbrev t : IsTaken y asked.rest j
    t = taken_there

    taking : OnWay y t.before (Take j) t.rest v
    taking = on_way y v t.before (Take j) t.rest y_reached (subst AllGoOn t.is y_kinds) (subst (λ xs. Path y xs v) t.is y_path) y_much

    taking_alike : Alike taking.at sent
    taking_alike = alike_on taking.at u sent (alike_on taking.at y u taking.before_alike y_alike) (alike_back sent u sent_alike)

    took : (a : World × WorldNote) × TakenAlike taking.at sent (step taking.at (Take j)) a answered
    took =
        taken_alike taking.at sent taking.reached sent_reached taking_alike j i m
        (sent_stays y taking.at t.before j m taking.to (sent_last x x.sent m)) (sent_last u u.sent m) answered own_path.1

    abbrev z : World
    z = taking.next

    took_next : took.0 ≡ (z, taking.told)
    took_next = ok_same took.0 (z, taking.told) (sym took.1.takes ∙ taking.takes)

    z_alike : Alike z y
    z_alike = alike_on z taking.at y taking.next_alike taking.before_alike

    answered_alike : Alike answered.0 sent
    answered_alike = took.1.still (subst (λ (w : World × WorldNote). Alike w.0 taking.at) (sym took_next) taking.next_alike)

    abbrev later : ℕ
    later = length u.sent + 2

    size : length sent.sent + 1 ≡ later
    size = let more = length-append u.sent (m ∷ []) in omega (arith, more)

    -- there is a reply, which the client takes
    no_reply : took.1.reply ≡ None → ⊥
    no_reply e =
        let same : answered.0.sent ≡ sent.sent = took.1.second ∙ ap (λ o. sent.sent ++ option_to_list o) e ∙ append-nil sent.sent in
        let besides = ap (λ (ms : List Message). length ms) same in
        let none : sent_at later answered.0 ≡ None = let n = size in none_sent answered.0 later (omega (arith, besides, n)) in
        let refused = sym (ap (taken answered.0) none) ∙ own_path.2.1 in
        cc

    module _ (reply : Message) (is : took.1.reply ≡ Some reply) where
      abbrev k : ℕ
      k = length taking.at.sent + 1

      reply_there : sent_at k z ≡ Some reply
      reply_there =
          sent_new z taking.at.sent reply
          (ap (λ (w : World × WorldNote). w.0.sent) (sym took_next) ∙ took.1.first ∙ ap (λ o. taking.at.sent ++ option_to_list o) is)

      reply_here : sent_at later answered.0 ≡ Some reply
      reply_here = ap (λ n. sent_at n answered.0) (sym size)
          ∙ sent_new answered.0 sent.sent reply (took.1.second ∙ ap (λ o. sent.sent ++ option_to_list o) is)

      reply_taken : Member (Take k) t.rest
      reply_taken =
          let to = path_steps y taking.at t.before taking.to in
          let place : sent_by (step (steps y t.before) (Take j)) ≡ Some k =
          ap (λ w. sent_by (step w (Take j))) to ∙ ap sent_by took.1.takes ∙ took.1.place ∙ ap (place_of taking.at) is in
          subst (λ o. IfSome o (λ n. Member (Take n) t.rest)) place t.reply

      abbrev split : (before : List Event) × (rest : List Event) × (t.rest ≡ before ++ Take k ∷ rest)
      split = split_at (Take k) t.rest reply_taken

      hearing : OnWay z split.0 (Take k) split.1 v
      hearing =
          let kinds = (all_split t.before (Take j ∷ t.rest) (subst AllGoOn t.is y_kinds)).1.1 in
          on_way z v split.0 (Take k) split.1 (reached_more taking.at (Take j) (z, taking.told) taking.reached taking.takes)
          (subst AllGoOn split.2 kinds) (subst (λ xs. Path z xs v) split.2 taking.from) (omega (arith, left_alike z y z_alike, y_much))

      hearing_alike : Alike hearing.at answered.0
      hearing_alike =
          alike_on hearing.at z answered.0 hearing.before_alike
          (alike_on z y answered.0 z_alike
          (alike_on y u answered.0 y_alike
          (alike_back answered.0 u (alike_on answered.0 sent u answered_alike sent_alike))))

      heard_there : (a : World × WorldNote) × TakenAlike hearing.at answered.0 (step hearing.at (Take k)) a own_path.2.0
      heard_there =
          taken_alike hearing.at answered.0 hearing.reached (reached_more sent (Take i) answered sent_reached own_path.1) hearing_alike k later reply
          (sent_stays z hearing.at split.0 k reply hearing.to reply_there) reply_here own_path.2.0 own_path.2.1

      ends_alike : Alike own_path.2.0.0 answered.0
      ends_alike =
          let same = ok_same heard_there.0 (hearing.next, hearing.told) (sym heard_there.1.takes ∙ hearing.takes) in
          heard_there.1.still (subst (λ (w : World × WorldNote). Alike w.0 hearing.at) (sym same) hearing.next_alike)

      all_still : ⊥
      all_still =
          not_less helps.after u
          (subst (λ w. Alike w u) own_path.2.2
          (alike_on own_path.2.0.0 answered.0 u ends_alike (alike_on answered.0 sent u answered_alike sent_alike))) helps.less

    asked_not : ⊥
    asked_not = by_reply took.1.reply refl
      where
        by_reply : (o : Option Message) → took.1.reply ≡ o → ⊥
        by_reply None e = no_reply e
        by_reply (Some reply) e = all_still reply e

  no_choice : (x : Next) → IsChoice u x → Helps u x → ⊥
  no_choice _ (finishes s m out) helps = not_in (Finish (number_of s)) refl (λ w x d. d) (round.finishes (number_of s) s (site_found u r s m) out)
  no_choice _ (begins s m can) helps = not_in (Begin (number_of s)) refl (λ w x d. d) (round.begins (number_of s) s (site_found u r s m) can)
  no_choice _ (ends q m can) helps = not_in (Do (id_of q) DoEnd) refl (λ w x d. d) (round.ends (id_of q) q (party_found u r q m) can)
  no_choice _ (asks q s m n well) helps = by_due (due q.client (number_of s)) refl well
    where
      by_due : (o : Option Message) → due q.client (number_of s) ≡ o → option_map_or (can_do s.core.state) o false ≡ true → ⊥
      by_due None e f = true≢false (sym f)
      by_due (Some message) e f = asked_not q s (party_found u r q m) (site_found u r s n) message e helps

-- ---- rounds

falls_or_calm : (u v : World) (es : List Event) → IsReached u → Path u es v → Round u es → Calm u ⊎ (left v < left u)
falls_or_calm u v es r p round =
    ⊎_elim (λ (calm : Calm u). inl calm)
    (λ (move : Useful u). inr (less_or (left v) (left u) (λ as_much. no_choice u r v es round p as_much move.next move.helps.choice move.helps)))
    (calm_or u r)

calm_rounds : (n : ℕ) (w v : World) → IsReached w → Calm w → Rounds n w v → Calm v
calm_rounds _ _ _ r calm (none w) = calm
calm_rounds _ _ _ r calm (one_more n w u v es leads round rest) =
    let p = path_of w u es leads in calm_rounds n u v (path_reached w u es r p) (stays_calm w u es r round.kinds p calm) rest

pub rounds_calm : (n : ℕ) (w v : World) → IsReached w → Rounds n w v → left w ≤ n → Calm v
rounds_calm _ _ _ r (none w) few =
    ⊎_elim (λ (calm : Calm w). calm)
    (λ (move : Useful w). let less = helps_falls w r move.next move.helps in absurd (omega (arith, less, few)))
    (calm_or w r)
rounds_calm _ _ _ r (one_more n w u v es leads round rest) few =
    let p = path_of w u es leads in
    let ur = path_reached w u es r p in
    ⊎_elim (λ (calm : Calm w). calm_rounds n u v ur (stays_calm w u es r round.kinds p calm) rest)
    (λ (less : left u < left w). rounds_calm n u v ur rest (omega (arith, less, few)))
    (falls_or_calm w u es r p round)
