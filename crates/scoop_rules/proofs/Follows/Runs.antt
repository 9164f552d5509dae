-- Every event in a reached world follows the rules, so a list of events from an opening world is a run of them.
use Rattle.scoop_rules.proofs.Names.{heard_place, ◌≡◌, ℕ, ◌+◌, List, [], ◌∷◌, ◌++◌, map, Some, refl, sym, ap, ◌∙◌, subst, Ok, find, if◌then◌else◌, false, ◌==◌}
use Rattle.scoop_rules.proofs.Names.{Err, option_map_or, HandlerId, by_test, core_of, hear, MayOpen, steps, IsReached, Run, next, run_after, heard_site}
use Rattle.scoop_rules.proofs.Names.{begun_site, finished_site, reopened, Placement, Newcomer, new_site, opening, Stepped, step, World, Site, number_of}
use Rattle.scoop_rules.proofs.Names.{is_site, site_of, set_site, inc_of, Changes, Ordered, own_site, set_same, anew_same, states_anew, Event, configuration_of}
use Rattle.scoop_rules.proofs.Names.{Objects, MovesLead, objects_of, Follows, FollowsRules, Configuration, Move, moved, no_class, empty_configuration, moves_of}
use Rattle.scoop_rules.proofs.Names.{moves_in, replayed, RunsByRules, LeadsByRules, due, heard, commanded_world, with_party, heard_party, Happens}
use Rattle.scoop_rules.proofs.Names.{event_happens, due_goes, client_moves, message_moves, facts, reached_keeps, both_kept, true, same_Some, all_found, has}
use Rattle.scoop_rules.proofs.Names.{is_party, handlers_of, PartyFits, facts_ready, Facts}
use Rattle.scoop_rules.proofs.Lists.{same_configuration}
use Rattle.scoop_model.specs.Reach as reach
use Rattle.scoop_model.proofs.Events as events
use Rattle.scoop_rules.proofs.Messages.{plain_quiet, request_plain}
use Rattle.scoop_rules.proofs.Sends.{quiet_same}
use Rattle.scoop_rules.proofs.Runs.{run_follows}
use Rattle.scoop_rules.proofs.Hears.{hears_follows}
use Rattle.scoop_rules.proofs.Follows.Facts.{Following}
use Rattle.scoop_rules.proofs.Follows.Clients.{notice_same, restart_follows}
use Rattle.scoop_rules.proofs.Follows.Commands.{command_follows}
use Rattle.scoop_rules.proofs.Follows.Sites.{begin_same, reopen_same}
use Rattle.scoop_model.specs.declared.note.WorldNote.TheVariants as note
use Rattle.scoop_rules.proofs.Asked.{Asked, asked_kept, opens_asked, none_waits}
use Rattle.scoop_rules.proofs.Follows.Sets.{Sets, sets_kept, opens_sets}
use Rattle.scoop_model.proofs.Ready.Runs as model
use Rattle.scoop_model.proofs.Logging.OpeningRuns.{running_opened}

-- ---- the invariants of every event make a world ready to follow the rules

pub following : (w : World) → Facts w → Asked w → Sets w → Following w
following w f asked sets = record {
  ready = facts_ready w f;
  ordered = f.ordered;
  logging = f.logging;
  sets = sets;
  clients = λ c p at. record {
    opened = λ r held is_there h m. (
        let all = running_opened w f.ordered f.logging f.openings c p at r held is_there in
        let named : handlers_of r.block w ≡ Some r.handlers =
        ((all_found (PartyFits w) (is_party c) w.parties p f.ordered.parties at).reservation r held).named in
        all.opened h (subst (λ hs. has hs h ≡ true) (same_Some r.handlers all.handlers (sym named ∙ all.set)) m));
    asked = λ r held free h. none_waits w asked c p r at held free h;
  };
}

-- ---- every event keeps a world ready

-- beside what the theorem on safety needs: what is asked, and which handlers a block names
abbrev pub Kept : World → Type 0
Kept w = model.Kept w × (Asked w × Sets w)

pub all_kept : (w : World) → Kept w → Changes Kept w
all_kept w i =
    let f = facts w i.0 in
    both_kept model.Kept (λ v. Asked v × Sets v) w (model.all_kept w i.0)
    (both_kept Asked Sets w (asked_kept w f.ordered f.logging f.answering f.taped i.1.0) (sets_kept w f.ordered i.1.1))

pub opens_kept : (ps : List Placement) (ns : List Newcomer) → MayOpen ps ns → Kept (opening ps ns)
opens_kept ps ns may = (model.opens_kept ps ns may, (opens_asked ps ns, opens_sets ps ns))

pub kept_following : (w : World) → Kept w → Following w
kept_following w i = following w (facts w i.0) i.1.0 i.1.1

pub reached_kept : (w : World) → IsReached w → Kept w
reached_kept w r = reached_keeps Kept all_kept opens_kept w r

pub reached_following : (w : World) → IsReached w → Following w
reached_following w r = kept_following w (reached_kept w r)

-- ---- each event that isn't refused follows the rules, if the world is ready for it

-- each way in which an event changes the world follows the rules
follows : (w : World) → Following w → Happens (Follows w) w
follows w f = record {
  commands = λ c p x d at is.
      subst (λ q. MovesLead (objects_of w) (configuration_of w) (client_moves w x q) (configuration_of (commanded_world w p x d))) (sym at)
      (command_follows w f c p at d x is);
  -- a client's message goes to a handler
  sends = λ c p h s at here.
      quiet_same w w.sites (due p.client h) (λ j. refl) (λ m e. plain_quiet w.sent m (request_plain m (due_goes p.client h m e)));
  hears = λ i m s was goes here. hears_follows w f.ready i m s was here;
  notices = λ i m p was goes at.
      let after : World = with_party w (heard_party p (heard p.client m)) in
      subst (λ q. MovesLead (objects_of w) (configuration_of w) (message_moves w after q (note.Client (heard p.client m).1)) (configuration_of after)) (sym was)
      (notice_same w f.ordered i m p was at);
  begins = λ h s t here is. begin_same w h s here;
  finishes = λ h s t here is. run_follows w h s t here f.ready is;
  restarts = λ c p at room. restart_follows w f.ordered (objects_of w) c p at;
  reopens = λ n. reopen_same w f.ordered n;
}

pub event_follows : (w : World) → Following w → (e : Event) → FollowsRules w e
event_follows w f e = event_happens (Follows w) w (follows w f) e

pub follows_rules : (w : World) (e : Event) → IsReached w → FollowsRules w e
follows_rules w e r = event_follows w (reached_following w r) e

-- ---- moves one after another

pub leads_both : (o : Objects) (g k end : Configuration) (ms ns : List Move) → MovesLead o g ms k → MovesLead o k ns end → MovesLead o g (ms ++ ns) end
leads_both o g k end [] ns first then_on = subst (λ c. MovesLead o c ns end) (sym first) then_on
leads_both o g k end (m ∷ ms) ns first then_on = (first.0, leads_both o (moved o m g) k end ms ns first.1 then_on)

-- the moves that lead from one configuration to another make the other of it
pub leads_replayed : (o : Objects) (g end : Configuration) (ms : List Move) → MovesLead o g ms end → replayed o ms g ≡ end
leads_replayed o g end [] l = l
leads_replayed o g end (m ∷ ms) l = leads_replayed o (moved o m g) end ms l.1

-- ---- the objects stay

same_objects :
    (v w : World) → ((h : HandlerId) → (objects_of v).class h ≡ (objects_of w).class h) → ((h : HandlerId) → (objects_of v).words h ≡ (objects_of w).words h)
    → objects_of v ≡ objects_of w
same_objects v w class words = λ i. record { class = λ h. class h i; words = λ h. words h i }

site_objects : (w : World) (s old : Site) → site_of (number_of s) w ≡ Some old → s.core.class ≡ old.core.class → s.placed ≡ old.placed
    → objects_of (record w { sites = set_site s w.sites }) ≡ objects_of w
site_objects w s old here class placed =
    same_objects (record w { sites = set_site s w.sites }) w (set_same (λ (x : Site). x.core.class) no_class w s old here class)
    (set_same (λ (x : Site). x.placed) [] w s old here placed)

class_kept : (n : ℕ) (s : Site) → (reopened n s).core.class ≡ s.core.class
class_kept n s =
    by_test (λ t. (if t then record s { core = core_of s.core.class s.stored false } else s).core.class ≡ s.core.class) (s.node == n) (λ here. refl)
    (λ there. refl)

placed_kept : (n : ℕ) (s : Site) → (reopened n s).placed ≡ s.placed
placed_kept n s =
    by_test (λ t. (if t then record s { core = core_of s.core.class s.stored false } else s).placed ≡ s.placed) (s.node == n) (λ here. refl) (λ there. refl)

abbrev HasObjects : Objects → World → Type 0
HasObjects o w = objects_of w ≡ o

objects_kept : (o : Objects) (w : World) → Ordered w → HasObjects o w → Changes (HasObjects o) w
objects_kept o w ordered i = record {
  commands = λ c p x d at is. i;
  sends = λ c p h s at here. i;
  hears = λ k m s was goes here. site_objects w (heard_site s (hear s.core.state m)) s (heard_place w m s here) refl refl ∙ i;
  notices = λ k m p was goes at. i;
  begins = λ h s t here is. site_objects w (begun_site s) s (own_site w h s here) refl refl ∙ i;
  finishes = λ h s t here is. site_objects w (finished_site s t) s (own_site w h s here) refl refl ∙ i;
  restarts = λ c p at room. i;
  reopens = λ n.
      same_objects (record w { sites = map (reopened n) w.sites }) w
      (λ h. anew_same (λ (x : Site). x.core.class) no_class class_kept n h w.sites (states_anew w ordered n))
      (λ h. anew_same (λ (x : Site). x.placed) [] placed_kept n h w.sites (states_anew w ordered n))
      ∙ i;
}

-- ---- events one after another

module _ (o : Objects) where
  after_one : (n : ℕ) (w : World) (e : Event) (es : List Event) → HasObjects o w
      → ((v : World) → Kept v → HasObjects o v → MovesLead o (configuration_of v) (moves_in v es) (configuration_of (run_after (n + 1) v es).0))
      → (s : Stepped) → events.Gives (Follows w e) s → events.Kept Kept s → events.Kept (HasObjects o) s
      → MovesLead o (configuration_of w) (elim s [ Ok r ↦ moves_of w r.0 e r.1 ++ moves_in r.0 es | Err x ↦ [] ])
      (configuration_of (next n w (λ v. run_after (n + 1) v es) s).0)
  after_one n w e es same later (Ok r) follows kept objects =
      leads_both o (configuration_of w) (configuration_of r.0) (configuration_of (run_after (n + 1) r.0 es).0) (moves_of w r.0 e r.1) (moves_in r.0 es)
      (subst (λ k. MovesLead k (configuration_of w) (moves_of w r.0 e r.1) (configuration_of r.0)) same follows)
      (later r.0 kept objects)
  after_one n w e es same later (Err x) follows kept objects = refl

  pub events_lead : (n : ℕ) (w : World) (es : List Event) → Kept w → HasObjects o w
      → MovesLead o (configuration_of w) (moves_in w es) (configuration_of (run_after n w es).0)
  events_lead n w [] kept same = refl
  events_lead n w (e ∷ es) kept same =
      after_one n w e es same
      (λ v k s. events_lead (n + 1) v es k s) (step w e) (event_follows w (kept_following w kept) e) (events.event_kept Kept w (all_kept w kept) e)
      (events.event_kept (HasObjects o) w (objects_kept o w (kept_following w kept).ordered same) e)

-- so it goes on from a reached world, where events lead to another
pub reached_runs : (v w : World) (es : List Event) → IsReached v → reach.Leads v es w → LeadsByRules v es w
reached_runs v w es r leads =
    subst (λ x. MovesLead (objects_of v) (configuration_of v) (moves_in v es) (configuration_of x)) (ap (λ (x : Run). x.0) leads)
    (events_lead (objects_of v) 0 v es (reached_kept v r) refl)

-- ---- from an opening world

none_ran : (h : HandlerId) (ps : List Placement) → option_map_or (λ (s : Site). s.ran) (find (is_site h) (map new_site ps)) [] ≡ []
none_ran h [] = refl
none_ran h (p ∷ ps) =
    by_test (λ t. option_map_or (λ (s : Site). s.ran) (if t then Some (new_site p) else find (is_site h) (map new_site ps)) [] ≡ []) (is_site h (new_site p))
    (λ here. refl)
    (λ there. none_ran h ps)

-- an opening world stands for the configuration in which nothing was reserved and nothing has run
pub opens_empty : (ps : List Placement) (ns : List Newcomer) → configuration_of (opening ps ns) ≡ empty_configuration (inc_of (opening ps ns))
opens_empty ps ns =
    same_configuration (configuration_of (opening ps ns)) (empty_configuration (inc_of (opening ps ns))) (λ h. refl) (λ h. none_ran h ps) refl (λ c. refl)

pub runs_by_rules : (ps : List Placement) (ns : List Newcomer) (es : List Event) → MayOpen ps ns → RunsByRules (opening ps ns) es (steps (opening ps ns) es)
runs_by_rules ps ns es may =
    let v : World = opening ps ns in
    subst (λ g. MovesLead (objects_of v) g (moves_in v es) (configuration_of (steps v es))) (opens_empty ps ns)
    (events_lead (objects_of v) 0 v es (opens_kept ps ns may) refl)

-- the moves of the events, played one after another, make what the world stands for
pub replays : (ps : List Placement) (ns : List Newcomer) (es : List Event) → MayOpen ps ns
    → replayed (objects_of (opening ps ns)) (moves_in (opening ps ns) es) (empty_configuration (inc_of (opening ps ns)))
    ≡ configuration_of (steps (opening ps ns) es)
replays ps ns es may =
    leads_replayed (objects_of (opening ps ns)) (empty_configuration (inc_of (opening ps ns))) (configuration_of (steps (opening ps ns) es))
    (moves_in (opening ps ns) es) (runs_by_rules ps ns es may)
