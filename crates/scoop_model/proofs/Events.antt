-- The obligations for each kind of event. `Happens` states a property of the event, the new world and the event's note.
-- `Changes` states one of the new world alone, so that a list of events keeps it (`steps_kept`). Every layer proves one of them.
use Rattle.scoop_model.proofs.Names.{◌≡◌, ℕ, ◌+◌, List, [], ◌∷◌, Some, None, refl, arith, Ok, Option, true, if◌then◌else◌, false, Bool, ◌==◌, ◌-◌, ◌^◌, Err}
use Rattle.scoop_model.proofs.Names.{list_any, ⊤, client_of, handler_of, is_for_handler, Message, ClientId, HandlerId, Hearing, hear, Task, ran_of, job_out}
use Rattle.scoop_model.proofs.Names.{ready, Outcome, command, due, heard, ClientState, Command, steps, Run, next, run_after, commanded_world, with_sent}
use Rattle.scoop_model.proofs.Names.{with_party, heard_party, restarted_party, heard_world, with_site, begun_site, finished_site, reopened_world, Stepped, step}
use Rattle.scoop_model.proofs.Names.{commanded, do_at, place_of, sent_or_silent, tick_at, taken_by_handler, taken_by_client, taken, begins, begin_at, finishes}
use Rattle.scoop_model.proofs.Names.{finish_at, restart_client, restart_node, World, Party, Site, site_of, sent_at, party_of, Event, Do, Tick, Take, Begin}
use Rattle.scoop_model.proofs.Names.{Finish, ClientRestart, NodeRestart, WorldNote}
use Rattle.scoop_model.specs.declared.note.WorldNote.TheVariants as note

-- the world after an event and what it tells, if it isn't refused, have the property
abbrev pub Gives : (World → WorldNote → Type 0) → Stepped → Type 0
Gives Q (Ok r) = Q r.0 r.1
Gives Q (Err e) = ⊤

-- a handler's result for a message
abbrev pub heard_by : Site → Message → Hearing
heard_by s m = hear s.core.state m

-- each way in which an event changes a world gives the property
pub record Happens (Q : Event → World → WorldNote → Type 0) (w : World) : Type 0 where
  pub commands : (c : ClientId) (p : Party) (x : Command) (d : ClientState) → party_of c w ≡ Some p → command p.client x ≡ Ok d
      → Q (Do c x) (commanded_world w p x d) note.Done
  pub sends : (c : ClientId) (p : Party) (h : HandlerId) (s : Site) → party_of c w ≡ Some p → site_of h w ≡ Some s
      → Q (Tick c h) (with_sent w (due p.client h)) (sent_or_silent (place_of w (due p.client h)))
  pub hears : (i : ℕ) (m : Message) (s : Site) → sent_at i w ≡ Some m → is_for_handler m ≡ true → site_of (handler_of m) w ≡ Some s
      → Q (Take i) (heard_world w s (heard_by s m)) (note.Handler (heard_by s m).1.note (place_of w (heard_by s m).1.reply))
  pub notices : (i : ℕ) (m : Message) (p : Party) → sent_at i w ≡ Some m → is_for_handler m ≡ false → party_of (client_of m) w ≡ Some p
      → Q (Take i) (with_party w (heard_party p (heard p.client m))) (note.Client (heard p.client m).1)
  pub begins : (h : HandlerId) (s : Site) (t : Task) → site_of h w ≡ Some s → ready s.core ≡ Some t
      → Q (Begin h) (with_site w (begun_site s)) (note.Began t.block t.number)
  pub finishes : (h : HandlerId) (s : Site) (t : Task) → site_of h w ≡ Some s → job_out s.core ≡ Some t
      → Q (Finish h) (with_site w (finished_site s t)) (note.Ran (ran_of t))
  pub restarts : (c : ClientId) (p : Party) → party_of c w ≡ Some p → (p.stored == 2 ^ 32 - 1) ≡ false
      → Q (ClientRestart c) (with_party w (restarted_party p)) (note.Restarted (p.stored + 1))
  pub reopens : (n : ℕ) → Q (NodeRestart n) (reopened_world w n) note.Reopened

module _ (Q : Event → World → WorldNote → Type 0) (w : World) (all : Happens Q w) where
  command_happens : (c : ClientId) (p : Party) (x : Command) (o : Outcome) → party_of c w ≡ Some p → command p.client x ≡ o
      → Gives (Q (Do c x)) (commanded w p x o)
  command_happens c p x (Err e) at is = tt
  command_happens c p x (Ok d) at is = all.commands c p x d at is

  do_happens : (c : ClientId) (x : Command) (o : Option Party) → party_of c w ≡ o → Gives (Q (Do c x)) (do_at w x o)
  do_happens c x None at = tt
  do_happens c x (Some p) at = command_happens c p x (command p.client x) at refl

  tick_happens :
      (c : ClientId) (h : HandlerId) (o : Option Party) (t : Option Site) → party_of c w ≡ o → site_of h w ≡ t → Gives (Q (Tick c h)) (tick_at w h o t)
  tick_happens c h (Some p) (Some s) at here = all.sends c p h s at here
  tick_happens c h o p at here = tt

  hear_happens : (i : ℕ) (m : Message) (o : Option Site) → sent_at i w ≡ Some m → is_for_handler m ≡ true → site_of (handler_of m) w ≡ o
      → Gives (Q (Take i)) (taken_by_handler w m o)
  hear_happens i m None was goes here = tt
  hear_happens i m (Some s) was goes here = all.hears i m s was goes here

  notice_happens : (i : ℕ) (m : Message) (o : Option Party) → sent_at i w ≡ Some m → is_for_handler m ≡ false → party_of (client_of m) w ≡ o
      → Gives (Q (Take i)) (taken_by_client w m o)
  notice_happens i m None was goes at = tt
  notice_happens i m (Some p) was goes at = all.notices i m p was goes at

  by_receiver : (i : ℕ) (m : Message) (b : Bool) → sent_at i w ≡ Some m → is_for_handler m ≡ b
      → Gives (Q (Take i)) (if b then taken_by_handler w m (site_of (handler_of m) w) else taken_by_client w m (party_of (client_of m) w))
  by_receiver i m true was goes = hear_happens i m (site_of (handler_of m) w) was goes refl
  by_receiver i m false was goes = notice_happens i m (party_of (client_of m) w) was goes refl

  take_happens : (i : ℕ) (o : Option Message) → sent_at i w ≡ o → Gives (Q (Take i)) (taken w o)
  take_happens i None was = tt
  take_happens i (Some m) was = by_receiver i m (is_for_handler m) was refl

  task_begins : (h : HandlerId) (s : Site) (o : Option Task) → site_of h w ≡ Some s → ready s.core ≡ o → Gives (Q (Begin h)) (begins w s o)
  task_begins h s None here is = tt
  task_begins h s (Some t) here is = all.begins h s t here is

  begin_happens : (h : HandlerId) (o : Option Site) → site_of h w ≡ o → Gives (Q (Begin h)) (begin_at w o)
  begin_happens h None here = tt
  begin_happens h (Some s) here = task_begins h s (ready s.core) here refl

  task_finishes : (h : HandlerId) (s : Site) (o : Option Task) → site_of h w ≡ Some s → job_out s.core ≡ o → Gives (Q (Finish h)) (finishes w s o)
  task_finishes h s None here is = tt
  task_finishes h s (Some t) here is = all.finishes h s t here is

  finish_happens : (h : HandlerId) (o : Option Site) → site_of h w ≡ o → Gives (Q (Finish h)) (finish_at w o)
  finish_happens h None here = tt
  finish_happens h (Some s) here = task_finishes h s (job_out s.core) here refl

  restart_happens : (c : ClientId) (o : Option Party) → party_of c w ≡ o → Gives (Q (ClientRestart c)) (restart_client w o)
  restart_happens c None at = tt
  restart_happens c (Some p) at = grind arith

  node_happens : (n : ℕ) → Gives (Q (NodeRestart n)) (restart_node w n)
  node_happens n = grind (arith, list_any)

  pub event_happens : (e : Event) → Gives (Q e) (step w e)
  event_happens (Do c x) = do_happens c x (party_of c w) refl
  event_happens (Tick c h) = tick_happens c h (party_of c w) (site_of h w) refl refl
  event_happens (Take i) = take_happens i (sent_at i w) refl
  event_happens (Begin h) = begin_happens h (site_of h w) refl
  event_happens (Finish h) = finish_happens h (site_of h w) refl
  event_happens (ClientRestart c) = restart_happens c (party_of c w) refl
  event_happens (NodeRestart n) = node_happens n

-- ---- properties of the world alone

-- the world after an event, if it isn't refused, has the property
abbrev pub Kept : (World → Type 0) → Stepped → Type 0
Kept P o = Gives (λ v told. P v) o

-- each way in which a world changes gives the property
abbrev pub Changes : (World → Type 0) → World → Type 0
Changes P w = Happens (λ e v told. P v) w

pub event_kept : (P : World → Type 0) (w : World) → Changes P w → (e : Event) → Kept P (step w e)
event_kept P w all e = event_happens (λ x v told. P v) w all e

-- an event that keeps P and keeps Q keeps both
pub both_kept : (P Q : World → Type 0) (w : World) → Changes P w → Changes Q w → Changes (λ v. P v × Q v) w
both_kept P Q w p q = grind (arith, begins, finishes)

module _ (P : World → Type 0) (each : (w : World) → P w → Changes P w) where
  one_kept : (n : ℕ) (w : World) (go_on : World → Run) → ((v : World) → P v → P (go_on v).0) → (o : Stepped) → P w → Kept P o → P (next n w go_on o).0
  one_kept n w go_on later (Ok r) p kept = later r.0 kept
  one_kept n w go_on later (Err x) p kept = p

  run_kept : (n : ℕ) (w : World) (es : List Event) → P w → P (run_after n w es).0
  run_kept n w [] p = p
  run_kept n w (e ∷ es) p = one_kept n w (λ v. run_after (n + 1) v es) (λ v q. run_kept (n + 1) v es q) (step w e) p (event_kept P w (each w p) e)

  pub steps_kept : (w : World) (es : List Event) → P w → P (steps w es)
  steps_kept w es p = run_kept 0 w es p
