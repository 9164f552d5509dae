-- The moves that settle a world, and induction over what is left to do. Worlds are compared by what their clients, their
-- marks and their queues have left.
use Rattle.scoop_calm.proofs.Names.{is_out, can_begin, ◌≡◌, ℕ, ◌+◌, ◌<◌, ◌≤◌, Some, same_client, same_handler, handler_decides, client_decides, World, Site}
use Rattle.scoop_calm.proofs.Names.{Party, number_of, id_of, site_of, party_of, set_site, set_party, IsReached, sites_apart, parties_apart, total, clients_left}
use Rattle.scoop_calm.proofs.Names.{room_left, Member, work_left, zero, suc, List, ◌++◌, arith, Event, Next, events_of, Settles, ◌-◌, ◌==◌, true, false, []}
use Rattle.scoop_calm.proofs.Names.{◌∷◌, length, slice_get, None, refl, sym, ap, ◌∙◌, subst, if◌then◌else◌, is_some, Ok, option_map_or, is_ok, length-append}
use Rattle.scoop_calm.proofs.Names.{nat_tests, Message, handler_of, client_of, is_for_handler, Note, HandlerState, Hearing, hear, Task, ready, job_out, ran_of}
use Rattle.scoop_calm.proofs.Names.{ClientState, due, Notice, heard, DoEnd as End, Do, Tick, Take, Begin, Finish, sent_at, step, do_at, commanded}
use Rattle.scoop_calm.proofs.Names.{commanded_world, with_sent, sends, tick_at, heard_world, at_handler, taken_by_handler, taken_by_client, heard_party}
use Rattle.scoop_calm.proofs.Names.{at_client, with_site, with_party, begun_site, begin_at, finished_site, finish_at, can_do, reached_more, taken, ⊤, Option}
use Rattle.scoop_calm.proofs.Names.{front, Stage, Locking, Opening, Unlocking, GivingUp, ReservationState, ◌⊎◌, inl, inr, Bool, true≢false, map, ⊎_elim, ◌||◌}
use Rattle.scoop_calm.proofs.Names.{AllByRecursion, option_map, Block, Entry, PrivateQueue, first_of, left_by_first, advance, Mark, IsCore, task_of, first_task}
use Rattle.scoop_calm.proofs.Names.{mark_after, job-front, by_test, mark_room, queue_work, runs_left, site_room, site_work}
use Rattle.scoop_calm.proofs.Lists.{distinct, member_found, total_newer, found_in, total_append, each_or, all_member}
use Rattle.scoop_calm.proofs.Chosen.{IsChoice, finishes as finish_chosen, begins as begin_chosen, asks as ask_chosen, ends as end_chosen}
use Rattle.scoop_client.specs.Commands as client
use Rattle.scoop_model.specs.declared.note.WorldNote.TheVariants as note
use Rattle.scoop_calm.specs.Settling as settling
use Rattle.scoop_calm.specs.declared.next.Next.TheVariants as next
use Rattle.scoop_model.specs.Step.{begins, finishes}

-- -------- Worlds with less left to do than others, and the effect of one site or one client on the sums.

-- the clients have less to do; or no more, and handlers have taken entries; or neither is more, and something has
-- begun or is finished
pub data Less (v w : World) : Type 0 where
  for_clients : clients_left v < clients_left w → Less v w
  for_room : clients_left v ≤ clients_left w → room_left v < room_left w → Less v w
  for_work : clients_left v ≤ clients_left w → room_left v ≤ room_left w → work_left v < work_left w → Less v w

-- ---- one site or one client changes

module _ (w : World) (reached : IsReached w) where
  pub site_found : (s : Site) → Member s w.sites → site_of (number_of s) w ≡ Some s
  site_found s m =
      member_found number_of same_handler handler_decides w.sites s (distinct number_of same_handler handler_decides w.sites (sites_apart w reached)) m

  pub party_found : (p : Party) → Member p w.parties → party_of (id_of p) w ≡ Some p
  party_found p m = member_found id_of same_client client_decides w.parties p (distinct id_of same_client client_decides w.parties (parties_apart w reached)) m

  pub sites_total : (f : Site → ℕ) (s old : Site) → site_of (number_of s) w ≡ Some old → total f (set_site s w.sites) + f old ≡ total f w.sites + f s
  sites_total f s old here = total_newer number_of same_handler handler_decides f s old w.sites
      (distinct number_of same_handler handler_decides w.sites (sites_apart w reached)) here

  pub parties_total : (f : Party → ℕ) (p old : Party) → party_of (id_of p) w ≡ Some old → total f (set_party p w.parties) + f old ≡ total f w.parties + f p
  parties_total f p old at = total_newer id_of same_client client_decides f p old w.parties
      (distinct id_of same_client client_decides w.parties (parties_apart w reached)) at

-- -------- Induction over what is left to do. Suppose that a property holds of a world whenever it holds of all worlds with
-- less left. Then it holds of every reached world.

-- it may be next, and leaves less to do
pub record Helps (w : World) (x : Next) : Type 0 where
  pub after : World
  pub reached : IsReached after
  pub less : Less after w
  pub goes : (es : List Event) (u : World) → Settles after es u → Settles w (events_of w x ++ es) u
  pub choice : IsChoice w x

-- something does
pub record Useful (w : World) : Type 0 where
  pub next : Next
  pub helps : Helps w next

pub useful : (w : World) (x : Next) → Helps w x → Useful w
useful w x h = record { next = x; helps = h }

module _ (Good : World → Type 0) where
  by_less : (w : World) (p v h : ℕ) → clients_left w ≤ p → room_left w ≤ v → work_left w ≤ h → ((u : World) → IsReached u → clients_left u < p → Good u) →
      ((u : World) → IsReached u → clients_left u ≤ p → room_left u < v → Good u) →
      ((u : World) → IsReached u → clients_left u ≤ p → room_left u ≤ v → work_left u < h → Good u) → (u : World) → IsReached u → Less u w → Good u
  by_less w p v h cp cv ch fewer taken ran u r (for_clients l) = fewer u r (omega (arith, l, cp))
  by_less w p v h cp cv ch fewer taken ran u r (for_room l m) = taken u r (omega (arith, l, cp)) (omega (arith, m, cv))
  by_less w p v h cp cv ch fewer taken ran u r (for_work l m n) = ran u r (omega (arith, l, cp)) (omega (arith, m, cv)) (omega (arith, n, ch))

  module _ (progress : (w : World) → IsReached w → ((u : World) → IsReached u → Less u w → Good u) → Good w) where
    module _ (p : ℕ) (fewer : (u : World) → IsReached u → clients_left u < p → Good u) where
      module _ (v : ℕ) (taken : (u : World) → IsReached u → clients_left u ≤ p → room_left u < v → Good u) where
        by_work : (h : ℕ) (w : World) → IsReached w → clients_left w ≤ p → room_left w ≤ v → work_left w < h → Good w
        by_work zero w r cp cv ch = absurd (omega (arith, ch))
        by_work (suc h) w r cp cv ch = progress w r (by_less w p v h cp cv (omega (arith, ch)) fewer taken (by_work h))

      by_room : (v : ℕ) (w : World) → IsReached w → clients_left w ≤ p → room_left w < v → Good w
      by_room zero w r cp cv = absurd (omega (arith, cv))
      by_room (suc v) w r cp cv = by_work v (by_room v) (suc (work_left w)) w r cp (omega (arith, cv)) (omega arith)

    by_clients : (p : ℕ) (w : World) → IsReached w → clients_left w < p → Good w
    by_clients zero w r cp = absurd (omega (arith, cp))
    by_clients (suc p) w r cp = by_room p (by_clients p) (suc (room_left w)) w r (omega (arith, cp)) (omega arith)

    pub by_what_is_left : (w : World) → IsReached w → Good w
    by_what_is_left w r = by_clients (suc (clients_left w)) w r (omega arith)

-- -------- The effect of each kind of event by which a world settles. A job goes out or is finished, or a client ends its block.
-- Or a client asks and hears the reply, in three events: it sends, the handler takes, the client takes. A move helps if
-- less is left after it: the new world is reached, settling goes on from it, and the move may be chosen.

-- ---- a job goes out, and is finished

module _ (w : World) (reached : IsReached w) (s : Site) (t : Task) (here : site_of (number_of s) w ≡ Some s) where
  begin_step : ready s.core ≡ Some t → step w (Begin (number_of s)) ≡ Ok (with_site w (begun_site s), note.Began t.block t.number)
  begin_step is = ap (begin_at w) here ∙ ap (begins w s) is

  pub begin_useful : ready s.core ≡ Some t → Less (with_site w (begun_site s)) w → Helps w (next.Begin (number_of s))
  begin_useful is less = record {
    after = with_site w (begun_site s);
    reached = reached_more w (Begin (number_of s)) (with_site w (begun_site s), note.Began t.block t.number) reached (begin_step is);
    less = less;
    goes = λ es u later. settling.begins w (with_site w (begun_site s)) u es (number_of s) t.block t.number (begin_step is) later;
    choice = begin_chosen s (found_in _ w.sites s here) (ap is_some is);
  }

  finish_step : job_out s.core ≡ Some t → step w (Finish (number_of s)) ≡ Ok (with_site w (finished_site s t), note.Ran (ran_of t))
  finish_step is = ap (finish_at w) here ∙ ap (finishes w s) is

  pub finish_useful : s.core.out ≡ true → job_out s.core ≡ Some t → Less (with_site w (finished_site s t)) w → Helps w (next.Finish (number_of s))
  finish_useful out is less = record {
    after = with_site w (finished_site s t);
    reached = reached_more w (Finish (number_of s)) (with_site w (finished_site s t), note.Ran (ran_of t)) reached (finish_step is);
    less = less;
    goes = λ es u later. settling.finishes w (with_site w (finished_site s t)) u es (number_of s) (ran_of t) (finish_step is) later;
    choice = finish_chosen s (found_in _ w.sites s here) out;
  }

-- ---- a client ends its block

module _ (w : World) (reached : IsReached w) (p : Party) (c : ClientState) (at : party_of (id_of p) w ≡ Some p)
    (ends : client.command p.client End ≡ Ok c) where
  abbrev pub ended_world : World
  ended_world = commanded_world w p End c

  end_step : step w (Do (id_of p) End) ≡ Ok (ended_world, note.Done)
  end_step = ap (do_at w End) at ∙ ap (commanded w p End) ends

  pub end_useful : Less ended_world w → Helps w (next.End (id_of p))
  end_useful less = record {
    after = ended_world;
    reached = reached_more w (Do (id_of p) End) (ended_world, note.Done) reached end_step;
    less = less;
    goes = λ es u later. settling.ends w ended_world u es (id_of p) end_step later;
    choice = end_chosen p (found_in _ w.parties p at) (ap is_ok ends);
  }

-- ---- a client asks, and hears the reply

last_of : (ms : List Message) (m : Message) → slice_get (ms ++ m ∷ []) (length ms) ≡ Some m
last_of [] m = refl
last_of (x ∷ xs) m = last_of xs m

pub sent_last : (w : World) (ms : List Message) (m : Message) → sent_at (length ms + 1) (record w { sent = ms ++ m ∷ [] }) ≡ Some m
sent_last w ms m =
    let place : (length ms + 1 == 0) ≡ false = grind (arith, nat_tests) in
    let before : length ms + 1 - 1 ≡ length ms = omega arith in
    ap (λ t. if t then None else slice_get (ms ++ m ∷ []) (length ms + 1 - 1)) place ∙ ap (slice_get (ms ++ m ∷ [])) before ∙ last_of ms m

module _ (w : World) (reached : IsReached w) (p : Party) (s : Site) (m reply : Message) (t : HandlerState) (told : Note) (d : Notice)
    (at : party_of (id_of p) w ≡ Some p) (here : site_of (number_of s) w ≡ Some s) (owes : due p.client (number_of s) ≡ Some m) (goes : is_for_handler m ≡ true)
    (to : handler_of m ≡ number_of s) (hears : hear s.core.state m ≡ (t, record { reply = Some reply; note = told })) (back : is_for_handler reply ≡ false)
    (can : can_do s.core.state m ≡ true) (own : client_of reply ≡ id_of p) (takes : heard p.client reply ≡ d) where
  abbrev hearing : Hearing
  hearing = (t, record { reply = Some reply; note = told })

  abbrev asked : World
  asked = with_sent w (Some m)

  abbrev answered : World
  answered = heard_world asked s hearing

  abbrev pub replied_world : World
  replied_world = with_party answered (heard_party p d)

  tick : step w (Tick (id_of p) (number_of s)) ≡ Ok (asked, note.Sent (length w.sent + 1))
  tick = ap (λ o. tick_at w (number_of s) o (site_of (number_of s) w)) at ∙ ap (tick_at w (number_of s) (Some p)) here ∙ ap (sends w) owes

  take : step asked (Take (length w.sent + 1)) ≡ Ok (answered, note.Handler told (Some (length asked.sent + 1)))
  take =
      ap (taken asked) (sent_last w w.sent m)
      ∙ ap (λ b. if b then taken_by_handler asked m (site_of (handler_of m) w) else taken_by_client asked m (party_of (client_of m) w)) goes
      ∙ ap (λ h. taken_by_handler asked m (site_of h w)) to ∙ ap (taken_by_handler asked m) here ∙ ap (at_handler asked s) hears

  notice : step answered (Take (length asked.sent + 1)) ≡ Ok (replied_world, note.Client d.1)
  notice =
      ap (taken answered) (sent_last answered asked.sent reply)
      ∙ ap (λ b. if b then taken_by_handler answered reply (site_of (handler_of reply) answered)
      else taken_by_client answered reply (party_of (client_of reply) w)) back
      ∙ ap (λ c. taken_by_client answered reply (party_of c w)) own ∙ ap (taken_by_client answered reply) at ∙ ap (at_client answered p) takes

  reply_place : length w.sent + 2 ≡ length asked.sent + 1
  reply_place = let more = length-append w.sent (m ∷ []) in omega (arith, more)

  pub ask_useful : Less replied_world w → Helps w (next.Ask (id_of p) (number_of s))
  ask_useful less = record {
    after = replied_world;
    reached =
        reached_more answered (Take (length asked.sent + 1)) (replied_world, note.Client d.1)
        (reached_more asked (Take (length w.sent + 1)) (answered, note.Handler told (Some (length asked.sent + 1)))
        (reached_more w (Tick (id_of p) (number_of s)) (asked, note.Sent (length w.sent + 1)) reached tick) take) notice;
    less = less;
    goes = λ es u later.
        subst (λ (n : ℕ). settling.Settles w (Tick (id_of p) (number_of s) ∷ Take (length w.sent + 1) ∷ Take n ∷ es) u) (sym reply_place)
        (settling.asks w asked answered replied_world u es (id_of p) (number_of s) (length w.sent + 1) (length asked.sent + 1) told d.1 tick take notice later);
    choice = ask_chosen p s (found_in _ w.parties p at) (found_in _ w.sites s here) (ap (λ o. option_map_or (can_do s.core.state) o false) owes ∙ can);
  }

-- -------- Worlds on their way to a calm one: handlers that have run out, clients that are welcome, and locks that are back.

-- no job is out, and none can go out
pub record HasRunOut (s : Site) : Type 0 where
  pub here : s.core.out ≡ false
  pub none : front s.core.state.queues ≡ None

-- every handler has welcomed the client
pub record IsWelcome (p : Party) : Type 0 where
  pub left : p.client.unwelcomed ≡ []

-- no lock is left to be given back
abbrev pub GaveBack : ReservationState → Stage → Type 0
GaveBack r Locking = ⊤
GaveBack r Opening = ⊤
GaveBack r Unlocking = r.left ≡ []
GaveBack r GivingUp = r.left ≡ []

abbrev pub HasGivenBack : Option ReservationState → Type 0
HasGivenBack None = ⊤
HasGivenBack (Some r) = GaveBack r r.stage

-- the client is welcomed everywhere, and has no lock left to give back
pub record IsSettled (p : Party) : Type 0 where
  pub welcome : IsWelcome p
  pub back : HasGivenBack p.client.reservation

-- -------- Every entry that can run runs.

-- ---- what is left to run

first_left : (q : PrivateQueue) (es : List Entry) → total queue_work (left_by_first q es) + 1 ≤ length es ⊎ (es ≡ [])
first_left q [] = inr refl
first_left q (e ∷ es) =
    inl (grind arith)

pub advance_less : (qs : List PrivateQueue) → is_some (front qs) ≡ true → total queue_work (advance qs) + 1 ≤ total queue_work qs
advance_less [] is = absurd (cc)
advance_less (q ∷ qs) is =
    ⊎_elim
    (λ (less : total queue_work (left_by_first q q.entries) + 1 ≤ length q.entries).
    omega (arith, total_append queue_work (left_by_first q q.entries) qs, less))
    (λ (none : q.entries ≡ []). absurd (let f : false ≡ true = sym (ap (λ es. is_some (first_of q es)) none) ∙ is in cc))
    (first_left q q.entries)

room_after : (t : Task) (ks : List Mark) → total mark_room (map (mark_after (ran_of t)) ks) ≡ total mark_room ks
room_after t [] = refl
room_after t (k ∷ ks) = ap (λ n. mark_room k + n) (room_after t ks)

-- ---- one site

module _ (w : World) (reached : IsReached w) (s : Site) (here : site_of (number_of s) w ≡ Some s) where
  pub begun_less : (t : Task) → s.core.out ≡ false → ready s.core ≡ Some t → Less (with_site w (begun_site s)) w
  begun_less t out is =
      let n = begun_site s in
      let now : runs_left s.core.state.queues n.core.out ≡ total queue_work s.core.state.queues + total queue_work s.core.state.queues =
      ap (λ b. runs_left s.core.state.queues (b || is_some (ready s.core))) out ∙ ap (λ o. runs_left s.core.state.queues (is_some o)) is ∙ omega arith in
      for_work (omega arith) (omega (arith, sites_total w reached site_room n s here))
      (omega (arith, sites_total w reached site_work n s here, now, ap (runs_left s.core.state.queues) out))

  pub finished_less : (t : Task) → s.core.out ≡ true → job_out s.core ≡ Some t → Less (with_site w (finished_site s t)) w
  finished_less t out is =
      let n = finished_site s t in
      let some : is_some (front s.core.state.queues) ≡ true = ap is_some (job-front s.core t is) in
      let was : site_work s ≡ total queue_work s.core.state.queues + total queue_work s.core.state.queues = ap (runs_left s.core.state.queues) out
      ∙ omega arith in
      for_work (omega arith) (omega (arith, sites_total w reached site_room n s here, room_after t s.core.state.marks))
      (omega (arith, sites_total w reached site_work n s here, advance_less s.core.state.queues some, was))

  -- a job that is out is finished, and an entry that can leave begins
  pub finish_helps : IsCore s.core → is_out s ≡ true → Helps w (next.Finish (number_of s))
  finish_helps core out = by_front (front s.core.state.queues) refl
    where
      by_front : (o : Option (Block × _ × Entry)) → front s.core.state.queues ≡ o → Helps w (next.Finish (number_of s))
      by_front None is = absurd (true≢false (sym (core.job out) ∙ ap is_some is))
      by_front (Some f) is =
          let t : Task = task_of s.core f in
          let can : job_out s.core ≡ Some t = ap (λ b. if b then first_task s.core else None) out ∙ ap (option_map (task_of s.core)) is in
          finish_useful w reached s t here out can (finished_less t out can)

  pub begin_helps : can_begin s ≡ true → Helps w (next.Begin (number_of s))
  begin_helps can = by_task (ready s.core) refl can
    where
      not_out : (t : Task) → ready s.core ≡ Some t → s.core.out ≡ false
      not_out t is = by_test (λ b. (if b then None else first_task s.core) ≡ Some t → b ≡ false) s.core.out (λ _ f. absurd (cc)) (λ _ f. refl) is

      by_task : (o : Option Task) → ready s.core ≡ o → is_some o ≡ true → Helps w (next.Begin (number_of s))
      by_task None is f = absurd (true≢false (sym f))
      by_task (Some t) is f = begin_useful w reached s t here is (begun_less t (not_out t is) is)

  -- the site has run out, or its first entry can go on
  at_front : IsCore s.core → (b : Bool) (o : Option (Block × ℕ × Entry)) → s.core.out ≡ b → front s.core.state.queues ≡ o → HasRunOut s ⊎ Useful w
  at_front core false None out is_front = inl (record { here = out; none = is_front })
  at_front core false (Some f) out is_front = inr (useful w (next.Begin (number_of s)) (begin_helps
      (ap (λ b. is_some (if b then None else first_task s.core)) out ∙ ap (λ o. is_some (option_map (task_of s.core) o)) is_front)))
  at_front core true o out is_front = inr (useful w (next.Finish (number_of s)) (finish_helps core out))

pub sites_run_out : (w : World) → IsReached w → AllByRecursion (λ s. IsCore s.core) w.sites → AllByRecursion HasRunOut w.sites ⊎ Useful w
sites_run_out w reached sound =
    each_or HasRunOut (Useful w) w.sites (λ s m.
    at_front w reached s (site_found w reached s m) (all_member (λ x. IsCore x.core) w.sites s sound m) s.core.out (front s.core.state.queues) refl refl)
