-- Every weave is a world.
use Rattle.scoop_weave.proofs.Names.{◌≡◌, List, [], ◌∷◌, ◌++◌, map, refl, sym, ap, ◌∙◌, subst, append-nil, append_assoc, map-map, Event, World, Placement}
use Rattle.scoop_weave.proofs.Names.{Newcomer, opening, MayOpen, Run, Leads, IsReached, reached_safe, System, new_placed, new_client, new_system, LocalMove}
use Rattle.scoop_weave.proofs.Names.{Heard, Began, Finished, NodeReopened, Commanded, Sent, ClientHeard, ClientRestarted, HeardIn, Moves, IsWeave, sent_by}
use Rattle.scoop_weave.proofs.Names.{site_by, party_by, world_by, event_in, Weave, IsWorld}
use Rattle.scoop_rules.specs.Paper.{RunsByRules}
use Rattle.scoop_rules.proofs.Follows.Runs.{runs_by_rules, follows_rules}
use Rattle.scoop_weave.specs.Histories.{events_behind, events_of}
use Rattle.scoop_weave.proofs.Brings.{Brings, brings_none, brings_both, brings_leads}
use Rattle.scoop_weave.proofs.Worlds.{same_world}
use Rattle.scoop_weave.proofs.Hearing.{hears_brings}
use Rattle.scoop_weave.proofs.Executing.{begins_brings, finishes_brings, reopens_brings}
use Rattle.scoop_weave.proofs.Driving.{takes_brings, sends_brings, restarts_brings}
use Rattle.scoop_weave.proofs.Promises.{promised}
use Rattle.scoop_weave.proofs.Noticing.{notices_brings}

move_brings :
    (past : List LocalMove) (v u : System) (m : LocalMove) → IsReached (world_by past v) → HeardIn (sent_by past) m → Moves m v u
    → Brings (world_by past v) (event_in (sent_by past) m) (world_by (past ++ m ∷ []) u)
move_brings past v u (Heard h m told) reached sent r = hears_brings past v u h m told reached sent r
move_brings past v u (Began h told) reached sent r = begins_brings past v u h told reached r
move_brings past v u (Finished h ran) reached sent r = finishes_brings past v u h ran r
move_brings past v u (NodeReopened n) reached sent r = reopens_brings past v u n reached r
move_brings past v u (Commanded c x b) reached sent r = takes_brings past v u c x b r
move_brings past v u (Sent c h m) reached sent r = sends_brings past v u c h m reached r
move_brings past v u (ClientHeard c m note) reached sent r = notices_brings past v u c m note reached sent r
move_brings past v u (ClientRestarted c) reached sent r = restarts_brings past v u c r

pub opens_same : (ps : List Placement) (ns : List Newcomer) → opening ps ns ≡ world_by [] (new_system ps ns)
opens_same ps ns =
    same_world _ _ _ _ _ _ _ _ _ _
    (sym (map-map (site_by []) new_placed ps))
    (sym (map-map (party_by []) new_client ns))
    refl refl refl

module _ (ps : List Placement) (ns : List Newcomer) (opens : MayOpen ps ns) where
  pub reached_by : (es : List Event) (w : World) → Brings (opening ps ns) es w → IsReached w
  reached_by es w brings = record { placements = ps; newcomers = ns; opens = opens; events = es; leads = brings_leads (opening ps ns) w es brings }

  pub weave_brings :
      (es : List Event) (past ms : List LocalMove) (v w : System) → Brings (opening ps ns) es (world_by past v) → IsWeave past v ms w
      → Brings (opening ps ns) (es ++ events_behind past ms) (world_by (past ++ ms) w)
  weave_brings es past [] v w brings same =
      let all : world_by past v ≡ world_by (past ++ []) w = ap (world_by past) same ∙ ap (λ xs. world_by xs w) (sym (append-nil past)) in
      brings_both (opening ps ns) (world_by past v) (world_by (past ++ []) w) es [] brings (brings_none (world_by past v) (world_by (past ++ []) w) all)
  weave_brings es past (m ∷ ms) v w brings weave =
      let u = weave.0 in
      let next = past ++ m ∷ [] in
      let event = event_in (sent_by past) m in
      let one = move_brings past v u m (reached_by es (world_by past v) brings) weave.1 weave.2 in
      let rest = weave_brings (es ++ event) next ms u w (brings_both (opening ps ns) (world_by past v) (world_by next u) es event brings one) weave.3 in
      subst (λ xs. Brings (opening ps ns) xs (world_by (past ++ m ∷ ms) w)) (append_assoc es event (events_behind next ms))
      (subst (λ xs. Brings (opening ps ns) ((es ++ event) ++ events_behind next ms) (world_by xs w)) (append_assoc past (m ∷ []) ms) rest)

  pub weave_reached : (ms : List LocalMove) (v : System) → Weave ps ns ms v → IsReached (world_by ms v)
  weave_reached ms v weave =
      reached_by (events_of ms) (world_by ms v) (weave_brings [] [] ms (new_system ps ns) v
      (brings_none (opening ps ns) (world_by [] (new_system ps ns)) (opens_same ps ns)) weave)

pub weave_is_a_world : (ps : List Placement) (ns : List Newcomer) (ms : List LocalMove) (now : System) → MayOpen ps ns → Weave ps ns ms now
    → IsWorld ps ns ms now
weave_is_a_world ps ns ms now opens weave =
    let w : World = world_by ms now in
    let brings = weave_brings ps ns opens [] [] ms (new_system ps ns) now
    (brings_none (opening ps ns) (world_by [] (new_system ps ns)) (opens_same ps ns)) weave in
    let leads : Leads (opening ps ns) (events_of ms) w = brings_leads (opening ps ns) w (events_of ms) brings in
    record {
      leads = leads;
      safe = reached_safe w (reached_by ps ns opens (events_of ms) w brings);
      rules = subst (RunsByRules (opening ps ns) (events_of ms)) (ap (λ (x : Run). x.0) leads) (runs_by_rules ps ns (events_of ms) opens);
      promises = promised ms now (reached_by ps ns opens (events_of ms) w brings);
      follows = λ e. follows_rules w e (reached_by ps ns opens (events_of ms) w brings);
    }
