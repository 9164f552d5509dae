-- The lock over a whole list of events. A handler grants it to a block at most once. A block that opens was the holder from its
-- grant on. First comes one event: a block that is held after it was held before, or the event granted it the lock. A client's
-- mark that has reached a block stays at it or goes past it. Then comes the list, event by event.
use Rattle.scoop_model.proofs.Names.{◌≡◌, ℕ, ◌+◌, ◌<◌, List, [], ◌∷◌, map, Some, None, refl, sym, ap, ◌∙◌, subst, arith, Ok, ◌≤◌, Option, find, true, zero, suc}
use Rattle.scoop_model.proofs.Names.{take, slice_get, length, ◌==◌, Err, ◌⊎◌, inl, inr, nat_lt, get_or, ⊎_elim, eqb-true, eqb-false, nat_tests, same_Some}
use Rattle.scoop_model.proofs.Names.{slice_get_within, slice_get-get_or, option_map_or, handler_of, is_for_handler, Message, Open, Lock, Block, HandlerId}
use Rattle.scoop_model.proofs.Names.{MarksGrow-after, all_found, by_test, MarksGrow-refl, mark_of-set_mark_own, number-row, grows-row, row, Hearing, hear}
use Rattle.scoop_model.proofs.Names.{fresh_mark, Row, lock_granted, ran_of, HandlerState, Mark, AtHeld, Note, Granted, OpenedNote as Opened, number_found}
use Rattle.scoop_model.proofs.Names.{by_site, site_put, Run, next, run_after, Leads, heard_world, heard_site, with_site, begun_site, finished_site, Placement}
use Rattle.scoop_model.proofs.Names.{Newcomer, new_site, opening, Stepped, step, place_of, taken_by_handler, taken, World, Site, number_of, is_site, site_of}
use Rattle.scoop_model.proofs.Names.{set_site, sent_at, Event, Take, Begin, Finish, WorldNote, own_site, heard_place}
use Rattle.scoop_model.specs.declared.note.WorldNote.TheVariants.{Handler}
use Rattle.scoop_model.specs.Grants.{world_after, holder_at, IsGrant, IsOpening, GrantsAt, OpensAt, HoldsSinceGrant}
use Rattle.scoop_model.proofs.Events.{Gives, Happens, event_happens, Changes, event_kept, steps_kept}
use Rattle.scoop_model.proofs.Order.{IsReachedIn, IsHeldIn, IsNewlyLocked, hears_row, held_ran, upto_itself, IsGranted, SiteFits, Ordered, granted_set}
use Rattle.scoop_model.proofs.Order.{granted_anew, reached_not_new, ordered_kept, opens_ordered, found_anew, state_anew}

-- ---- the worlds of a run

-- n events were taken before
abbrev after : ℕ → World → List Event → ℕ → World
after n v es k = (run_after n v (take k es)).0

-- the world that comes of an outcome, in a run that ends well
record Comes (w : World) (e : Event) (v : World) : Type 0 where
  told : WorldNote
  is : step w e ≡ Ok (v, told)

first_goes : (n : ℕ) (v w : World) (x : Event) (xs : List Event) (c : ℕ) (o : Stepped) → step v x ≡ o → next n v (λ u. run_after (n + 1) u xs) o ≡ (w, Ok c)
    → Comes v x (next n v (λ u. run_after (n + 1) u []) o).0
first_goes n v w x xs c (Ok q) is leads = record { told = q.1; is = is }
first_goes n v w x xs c (Err y) is leads = absurd (let f = ap (λ (r : Run). r.1) leads in cc)

later_goes : (n : ℕ) (v w : World) (xs : List Event) (c k : ℕ) (e : Event)
    → ((u : World) → run_after (n + 1) u xs ≡ (w, Ok c) → Comes (after (n + 1) u xs k) e (after (n + 1) u xs (suc k)))
    → (o : Stepped) → next n v (λ u. run_after (n + 1) u xs) o ≡ (w, Ok c)
    → Comes (next n v (λ u. run_after (n + 1) u (take k xs)) o).0 e (next n v (λ u. run_after (n + 1) u (take (suc k) xs)) o).0
later_goes n v w xs c k e later (Ok q) leads = later q.0 leads
later_goes n v w xs c k e later (Err y) leads = absurd (let f = ap (λ (r : Run). r.1) leads in cc)

goes_on : (n : ℕ) (v w : World) (es : List Event) (c : ℕ) → run_after n v es ≡ (w, Ok c) → (k : ℕ) (e : Event) → slice_get es k ≡ Some e
    → Comes (after n v es k) e (after n v es (suc k))
goes_on n v w [] c leads k e at = absurd (cc)
goes_on n v w (x ∷ xs) c leads zero e at =
    let same : x ≡ e = cc in subst (λ y. Comes v y (after n v (x ∷ xs) 1)) same (first_goes n v w x xs c (step v x) refl leads)
goes_on n v w (x ∷ xs) c leads (suc k) e at = later_goes n v w xs c k e (λ u l. goes_on (n + 1) u w xs c l k e at) (step v x) leads

-- ---- the marks at a handler

abbrev marks_in : Option Site → List Mark
marks_in o = option_map_or (λ (s : Site). s.core.state.marks) o []

abbrev HeldAt : World → HandlerId → Block → Type 0
HeldAt w h b = IsHeldIn (marks_in (site_of h w)) b

-- the block whose mark is held holds the lock
held_holder : (w : World) → Ordered w → (h : HandlerId) (b : Block) → HeldAt w h b → holder_at h w ≡ Some b
held_holder w o h b = by (site_of h w) (λ s found. all_found (SiteFits w.joint) (is_site h) w.sites s o.sites found)
  where
    by : (q : Option Site) → ((s : Site) → q ≡ Some s → SiteFits w.joint s) → IsHeldIn (marks_in q) b
        → option_map_or (λ (s : Site). s.core.state.holder) q None ≡ Some b
    by None fits held = absurd (let f = held.found in cc)
    by (Some s) fits held = (fits s refl).holds b held

-- a world that opens has no marks
none_held : (h : HandlerId) (b : Block) (ps : List Placement) → IsHeldIn (marks_in (find (is_site h) (map new_site ps))) b → ⊥
none_held h b [] held = let f = held.found in cc
none_held h b (p ∷ ps) held = grind (arith, none_held h b ps)

-- ---- one event

-- the row by which the lock is granted: the client's mark was before the block, and is at it then
granting-row : (s : HandlerState) (m : Message) (h : Hearing) → Row s m h → h.1.note ≡ Granted → (x : HandlerId) (b : Block) → m ≡ Lock x b
    → IsNewlyLocked s m h b × IsReachedIn h.0.marks b
granting-row s m h (lock_granted x b k here at new free clear) e y z same =
    let one : b ≡ z = cc in
    subst (λ c. IsNewlyLocked s (Lock x b) h c × IsReachedIn h.0.marks c) one (
      record { asks = ap (λ n. Lock n b) here; note = refl; mark = k; found = at.found; inc = at.inc; num = new },
      record { mark = fresh_mark b AtHeld; found = mark_of-set_mark_own (fresh_mark b AtHeld) k s.marks at.found; upto = upto_itself b.inc b.num },
    )
granting-row s m h r e y z same = absurd (let f = e in cc)

-- the effect of a message to a handler, by the note of its event
record TookAt (w : World) (m : Message) (v : World) (told : Note) : Type 0 where
  site : Site
  found : site_of (handler_of m) w ≡ Some site
  note : (hear site.core.state m).1.note ≡ told
  world : heard_world w site (hear site.core.state m) ≡ v

took_at : (w v : World) (m : Message) (told : Note) (reply : Option ℕ) (o : Option Site) → site_of (handler_of m) w ≡ o
    → taken_by_handler w m o ≡ Ok (v, Handler told reply) → TookAt w m v told
took_at w v m told reply None here is = absurd (cc)
took_at w v m told reply (Some s) here is = grind arith

-- the events of the two definitions
grant_took : (w : World) (e : Event) (h : HandlerId) (b : Block) (g : IsGrant w e h b) → TookAt w (Lock h b) g.next Granted
grant_took w e h b g = took_at w g.next (Lock h b) Granted g.reply (site_of h w) refl (sym (ap (taken w) g.asked) ∙ ap (step w) (sym g.takes) ∙ g.granted)

opening_took : (w : World) (e : Event) (h : HandlerId) (b : Block) (g : IsOpening w e h b) → TookAt w (Open h b) g.next (Opened b)
opening_took w e h b g = took_at w g.next (Open h b) (Opened b) g.reply (site_of h w) refl (sym (ap (taken w) g.asked) ∙ ap (step w) (sym g.takes) ∙ g.opened)

-- a block that is held after an event was held before, or the event granted it the lock
abbrev FromBefore : World → Event → World → WorldNote → Type 0
FromBefore w e v told = (h : HandlerId) (b : Block) → HeldAt v h b → HeldAt w h b ⊎ IsGrant w e h b

module _ (w : World) (o : Ordered w) where
  module _ (i : ℕ) (m : Message) (s : Site) (was : sent_at i w ≡ Some m) (goes : is_for_handler m ≡ true) (here : site_of (handler_of m) w ≡ Some s) where
    abbrev now : Hearing
    now = hear s.core.state m

    abbrev later : Site
    later = heard_site s now

    number : number_of later ≡ number_of s
    number = number-row s.core.state m now (row s.core.state m)

    place : site_of (number_of later) w ≡ Some s
    place = heard_place w m s here

    took : step w (Take i) ≡ Ok (heard_world w s now, Handler now.1.note (place_of w now.1.reply))
    took = grind arith

    hears_before : FromBefore w (Take i) (heard_world w s now) (Handler now.1.note (place_of w now.1.reply))
    hears_before h b held =
        by_site (λ q. IsHeldIn (marks_in q) b → HeldAt w h b ⊎ IsGrant w (Take i) h b) w later s h place
        (λ is now_held.
        ⊎_elim
        (λ (old : IsHeldIn s.core.state.marks b). inl (subst (λ q. IsHeldIn (marks_in q) b) (sym place ∙ ap (λ j. site_of j w) is) old))
        (λ (new : IsNewlyLocked s.core.state m now b).
        let asks : m ≡ Lock h b = new.asks ∙ ap (λ j. Lock j b) (sym number ∙ is) in
        inr (record {
          place = i;
          takes = refl;
          asked = was ∙ ap Some asks;
          next = heard_world w s now;
          reply = place_of w now.1.reply;
          granted = took ∙ ap (λ n. Ok (heard_world w s now, Handler n (place_of w now.1.reply))) new.note;
        }))
        ((hears_row s.core.state m now (row s.core.state m)).locks b now_held))
        (λ apart old. inl old)
        held

  -- a site goes on, and no block comes to be held
  site_before : (e : Event) (t s : Site) → site_of (number_of t) w ≡ Some s → ((b : Block) → IsHeldIn t.core.state.marks b → IsHeldIn s.core.state.marks b)
      → (h : HandlerId) (b : Block) → HeldAt (with_site w t) h b → HeldAt w h b ⊎ IsGrant w e h b
  site_before e t s place back h b held =
      by_site (λ q. IsHeldIn (marks_in q) b → HeldAt w h b ⊎ IsGrant w e h b) w t s h place
      (λ is now_held. inl (subst (λ q. IsHeldIn (marks_in q) b) (sym place ∙ ap (λ j. site_of j w) is) (back b now_held)))
      (λ apart old. inl old)
      held

  happens : Happens (FromBefore w) w
  happens = record {
    commands = λ c p x d at is h b held. inl held;
    sends = λ c p j s at here h b held. inl held;
    hears = λ i m s was goes here. hears_before i m s was goes here;
    notices = λ i m p was goes at h b held. inl held;
    begins = λ j s t here is. site_before (Begin j) (begun_site s) s (own_site w j s here) (λ b held. held);
    finishes = λ j s t here is. site_before (Finish j) (finished_site s t) s (own_site w j s here) (λ b held. held_ran (ran_of t) s.core.state.marks b held);
    restarts = λ c p at room h b held. inl held;
    reopens = λ n h b held. inl (subst (λ ks. IsHeldIn ks b)
        (found_anew w.joint n (λ q. marks_in q ≡ marks_in (site_of h w)) h (λ s f same. ap (λ (x : HandlerState). x.marks) (state_anew w.joint n s f) ∙ same)
        w.sites o.sites refl) held);
  }

  -- a mark that has reached a block stays at it, or goes past it
  granted_changes : (h : HandlerId) (b : Block) → IsGranted w h b → Changes (λ v. IsGranted v h b) w
  granted_changes h b g = record {
    commands = λ c p x d at is. g;
    sends = λ c p j s at here. g;
    hears = λ i m s was goes here. (
        let now = hear s.core.state m in
        granted_set w (heard_site s now) s (heard_place w m s here) (grows-row s.core.state m now (row s.core.state m)) h b g);
    notices = λ i m p was goes at. g;
    begins = λ j s t here is. granted_set w (begun_site s) s (own_site w j s here) (MarksGrow-refl s.core.state.marks) h b g;
    finishes = λ j s t here is. granted_set w (finished_site s t) s (own_site w j s here) (MarksGrow-after (ran_of t) s.core.state.marks) h b g;
    restarts = λ c p at room. g;
    reopens = λ n. granted_anew w.joint n h b w.sites o.sites g;
  }

-- a property of an event's outcome holds of the outcome that it has
outcome : (Q : World → WorldNote → Type 0) (o : Stepped) (v : World) (told : WorldNote) → o ≡ Ok (v, told) → Gives Q o → Q v told
outcome Q o v told is q = subst (Gives Q) is q

-- the mark has reached a block that is granted the lock
grant_reaches : (w : World) (e : Event) (h : HandlerId) (b : Block) (g : IsGrant w e h b) → IsGranted g.next h b
grant_reaches w e h b g =
    let took = grant_took w e h b g in
    let s = took.site in
    let now = hear s.core.state (Lock h b) in
    let by = row s.core.state (Lock h b) in
    let number : number_of (heard_site s now) ≡ h = number-row s.core.state (Lock h b) now by ∙ number_found h w s took.found in
    let place : site_of (number_of (heard_site s now)) w ≡ Some s = subst (λ j. site_of j w ≡ Some s) (sym number) took.found in
    subst (λ v. IsGranted v h b) took.world (record {
      site = heard_site s now;
      found = subst (λ j. find (is_site j) (set_site (heard_site s now) w.sites) ≡ Some (heard_site s now)) number (site_put w (heard_site s now) s place);
      reached = (granting-row s.core.state (Lock h b) now by took.note h b refl).1;
    })

-- which it never had before
grant_new : (w : World) (e : Event) (h : HandlerId) (b : Block) → IsGrant w e h b → IsGranted w h b → ⊥
grant_new w e h b g r =
    let took = grant_took w e h b g in
    let s = took.site in
    let now = hear s.core.state (Lock h b) in
    let same : r.site ≡ s = same_Some r.site s (sym r.found ∙ took.found) in
    reached_not_new s (Lock h b) now b (subst (λ (x : Site). IsReachedIn x.core.state.marks b) same r.reached)
    (granting-row s.core.state (Lock h b) now (row s.core.state (Lock h b)) took.note h b refl).0

-- a block that opens is held before
opening_held : (w : World) (e : Event) (h : HandlerId) (b : Block) → IsOpening w e h b → HeldAt w h b
opening_held w e h b g = grind (arith, took, opening_took, hears_row, row)

-- ---- any list of events from a world that opens

module _ (ps : List Placement) (ns : List Newcomer) (es : List Event) (w : World) (leads : Leads (opening ps ns) es w) where
  abbrev v : World
  v = opening ps ns

  ordered_at : (k : ℕ) → Ordered (world_after v es k)
  ordered_at k = steps_kept Ordered ordered_kept v (take k es) (opens_ordered ps ns)

  comes : (k : ℕ) (e : Event) → slice_get es k ≡ Some e → Comes (world_after v es k) e (world_after v es (suc k))
  comes k e at = goes_on 0 v w es (length es) leads k e at

  event_at : (k : ℕ) → k < length es → (e : Event) × (slice_get es k ≡ Some e)
  event_at k lt = (get_or es k (Take 0), slice_get-get_or es k (Take 0) lt)

  -- ---- a block that is held

  -- the event just before granted it the lock
  just_granted :
      (h : HandlerId) (b : Block) (k : ℕ) (e : Event) → slice_get es k ≡ Some e → IsGrant (world_after v es k) e h b → HeldAt (world_after v es (suc k)) h b
      → HoldsSinceGrant v es (suc k) h b
  just_granted h b k e there grant held = record {
    at = k;
    before = omega arith;
    granted = record { event = e; there = there; grant = grant };
    held = λ m lt le.
        let same : suc k ≡ m = omega (arith, lt, le) in
        subst (λ j. holder_at h (world_after v es j) ≡ Some b) same (held_holder (world_after v es (suc k)) (ordered_at (suc k)) h b held);
  }

  -- or it was held before
  still_held : (h : HandlerId) (b : Block) (k : ℕ) → HeldAt (world_after v es (suc k)) h b → HoldsSinceGrant v es k h b → HoldsSinceGrant v es (suc k) h b
  still_held h b k held since = record {
    at = since.at;
    before = let lt = since.before in omega (arith, lt);
    granted = since.granted;
    held = λ m lt le.
        by_test (λ _. holder_at h (world_after v es m) ≡ Some b) (m == suc k)
        (λ is.
        let same : suc k ≡ m = let e = eqb-true m (suc k) is in omega (arith, e) in
        subst (λ j. holder_at h (world_after v es j) ≡ Some b) same (held_holder (world_after v es (suc k)) (ordered_at (suc k)) h b held))
        (λ is. since.held m lt (let apart = eqb-false m (suc k) is in omega (arith, le, apart)));
  }

  held_since : (k : ℕ) → k ≤ length es → (h : HandlerId) (b : Block) → HeldAt (world_after v es k) h b → HoldsSinceGrant v es k h b
  held_since zero le h b held = absurd (none_held h b ps held)
  held_since (suc k) le h b held =
      let now : World = world_after v es k in
      let e = event_at k (omega (arith, le)) in
      let c = comes k e.0 e.1 in
      ⊎_elim
      (λ (old : HeldAt now h b). still_held h b k held (held_since k (omega (arith, le)) h b old))
      (λ (grant : IsGrant now e.0 h b). just_granted h b k e.0 e.1 grant held)
      (outcome (FromBefore now e.0) (step now e.0) (world_after v es (suc k)) c.told c.is
      (event_happens (FromBefore now) now (happens now (ordered_at k)) e.0) h b held)

  pub opens_held : (j : ℕ) (h : HandlerId) (b : Block) → OpensAt v es j h b → HoldsSinceGrant v es j h b
  opens_held j h b o =
      let lt = slice_get_within es j o.event o.there in held_since j (omega (arith, lt)) h b (opening_held (world_after v es j) o.event h b o.opening)

  -- ---- a block that is granted the lock

  -- the mark has reached the block from there on
  reached_from : (i : ℕ) (h : HandlerId) (b : Block) → GrantsAt v es i h b → (k : ℕ) → i < k → k ≤ length es → IsGranted (world_after v es k) h b
  reached_from i h b g zero lt le = absurd (omega (arith, lt))
  reached_from i h b g (suc k) lt le =
      by_test (λ _. IsGranted (world_after v es (suc k)) h b) (i == k)
      (λ is.
      let same : i ≡ k = eqb-true i k is in
      let c = comes i g.event g.there in
      let here : g.grant.next ≡ world_after v es (suc i) = world_is g.grant.next (world_after v es (suc i)) (sym g.grant.granted ∙ c.is) in
      subst (λ j. IsGranted (world_after v es (suc j)) h b) same (subst (λ u. IsGranted u h b) here (grant_reaches (world_after v es i) g.event h b g.grant)))
      (λ is.
      let apart = eqb-false i k is in
      let now : World = world_after v es k in
      let before = reached_from i h b g k (omega (arith, lt, apart)) (omega (arith, le)) in
      let e = event_at k (omega (arith, le)) in
      let c = comes k e.0 e.1 in
      outcome (λ u told. IsGranted u h b) (step now e.0) (world_after v es (suc k)) c.told c.is
      (event_kept (λ u. IsGranted u h b) now (granted_changes now (ordered_at k) h b before) e.0))
    where
      world_is : {t u : WorldNote} → (x y : World) → ◌≡◌ {A = Stepped} (Ok (x, t)) (Ok (y, u)) → x ≡ y
      world_is {t} {u} x y e = let same : ◌≡◌ {A = World × WorldNote} (x, t) (y, u) = cc in ap (λ (r : World × WorldNote). r.0) same

  not_later : (i j : ℕ) (h : HandlerId) (b : Block) → GrantsAt v es i h b → GrantsAt v es j h b → i < j → ⊥
  not_later i j h b f g lt =
      let within = slice_get_within es j g.event g.there in
      grant_new (world_after v es j) g.event h b g.grant (reached_from i h b f j lt (omega (arith, within)))

  pub granted_once : (i j : ℕ) (h : HandlerId) (b : Block) → GrantsAt v es i h b → GrantsAt v es j h b → i ≡ j
  granted_once i j h b f g =
      by_test (λ _. i ≡ j) (nat_lt i j)
      (λ is. let lt : i < j = grind (arith, nat_tests) in absurd (not_later i j h b f g lt))
      (λ is.
      by_test (λ _. i ≡ j) (nat_lt j i)
      (λ back. let lt : j < i = grind (arith, nat_tests) in absurd (not_later j i h b g f lt))
      (λ back. grind (arith, nat_tests)))
