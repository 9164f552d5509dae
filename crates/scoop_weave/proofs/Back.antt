-- Every world that is reached is that of a weave. An opening world is that of no move. Each event makes the weave one move
-- longer, or leaves it where a node without handlers restarts. A look-up in the world finds a handler or a client of the
-- system, and that party makes the move. It hears only what was sent, since the world has taken it from there.
use Rattle.scoop_weave.proofs.Names.{append-nil, append_assoc, ◌≡◌, ℕ, ◌==◌, true, false, List, [], ◌∷◌, ◌++◌, map, Option, Some, None, refl, sym, ap, ◌∙◌}
use Rattle.scoop_weave.proofs.Names.{subst, if◌then◌else◌, Ok, list_any, option_map, Block, ClientId, HandlerId, Message, same_handler, same_client, handler_of}
use Rattle.scoop_weave.proofs.Names.{client_of, is_for_handler, handler_decides, client_decides, has, core_of, hear, Task, ready, job_out, ran_of, ClientState}
use Rattle.scoop_weave.proofs.Names.{due, heard, Command, Event, World, Site, Party, number_of, is_party, sent_at, site_of, party_of, Placement, Newcomer}
use Rattle.scoop_weave.proofs.Names.{opening, newest_block, commanded_world, with_sent, heard_world, heard_party, with_party, with_site, begun_site}
use Rattle.scoop_weave.proofs.Names.{finished_site, restarted_party, reopened, reopened_world, MayOpen, IsReached, by_test, key_found, none_due}
use Rattle.scoop_weave.proofs.Names.{LocalHandler, after_hearing, after_begin, after_finish, leaves, PlacedHandler, System, its_number, id_in, placed_in}
use Rattle.scoop_weave.proofs.Names.{client_in, with_local, with_placed, with_client, after_reopening, after_step, after_restart, new_system, LocalMove, Heard}
use Rattle.scoop_weave.proofs.Names.{Began, Finished, NodeReopened, Commanded, Sent, ClientHeard, ClientRestarted, HeardIn, Moves, HandlerMoves, AtHandler}
use Rattle.scoop_weave.proofs.Names.{IsWeave, sent_by, site_by, party_by, world_by, Weave}
use Rattle.scoop_model.specs.Reach.{steps}
use Rattle.scoop_model.proofs.Granting.{sent_in}
use Rattle.scoop_model.proofs.Events.{Changes, steps_kept}
use Rattle.scoop_weave.specs.Weave.{IsOfWeave}
use Rattle.scoop_client.specs.Commands as client
use Rattle.std.proofs.lemmas.Bool.{or_parts}
use Rattle.scoop_weave.proofs.Lists.{find_through}
use Rattle.scoop_weave.proofs.Worlds.{client_itself}
use Rattle.scoop_weave.proofs.Executing.{begun_world, run_world, any_through, reopened_same}
use Rattle.scoop_weave.proofs.Driving.{takes_world, sent_world, restarted_world}
use Rattle.scoop_weave.proofs.Headline.{opens_same, weave_reached}
use Rattle.scoop_weave.proofs.Hearing as hearing
use Rattle.scoop_weave.proofs.Noticing as noticing

-- ---- one move more

longer :
    (past ms : List LocalMove) (m : LocalMove) (v w u : System) → IsWeave past v ms w → HeardIn (sent_by (past ++ ms)) m → Moves m w u
    → IsWeave past v (ms ++ m ∷ []) u
longer past [] m v w u same sent r = (u, subst (λ xs. HeardIn (sent_by xs) m) (append-nil past) sent, subst (λ x. Moves m x u) (sym same) r, refl)
longer past (n ∷ ms) m v w u weave sent r =
    (weave.0, weave.1, weave.2, longer (past ++ n ∷ []) ms m weave.0 w u weave.3 (subst (λ xs. HeardIn (sent_by xs) m) (sym (append_assoc past (n ∷ []) ms)) sent) r)

at_place : (h : HandlerId) (m : LocalMove) (v : System) (s : PlacedHandler) (a : LocalHandler) → placed_in h v ≡ Some s → HandlerMoves m s (with_local a s)
    → AtHandler h m v (with_placed (with_local a s) v)
at_place h m v s a here moves = record { handler = s; here = here; new = with_local a s; moves = moves; after = refl }

-- ---- what a look-up in the world found in the system

record Through {A B : Type 0} (f : A → B) (o : Option A) (b : B) : Type 0 where
  it : A
  found : o ≡ Some it
  is : f it ≡ b

through : {A B : Type 0} (f : A → B) (o : Option A) (b : B) → option_map f o ≡ Some b → Through f o b
through f None b e = absurd (cc)
through f (Some a) b e = record { it = a; found = refl; is = (let same : f a ≡ b = cc in same) }

site_from : (past : List LocalMove) (v : System) (h : HandlerId) (s : Site) → site_of h (world_by past v) ≡ Some s → Through (site_by past) (placed_in h v) s
site_from past v h s here = through (site_by past) (placed_in h v) s (sym (find_through number_of same_handler (site_by past) h v.handlers) ∙ here)

party_from : (past : List LocalMove) (v : System) (c : ClientId) (p : Party) → party_of c (world_by past v) ≡ Some p → Through (party_by past) (client_in c v) p
party_from past v c p at = through (party_by past) (client_in c v) p
    (sym (find_through (λ (p : Party). p.client.id) same_client (party_by past) c v.clients) ∙ at)

-- ---- each way in which a world changes

module _ (ps : List Placement) (ns : List Newcomer) (opens : MayOpen ps ns) where
  abbrev Woven : World → Type 0
  Woven w = IsOfWeave ps ns w

  module _ (ms : List LocalMove) (v : System) (weave : Weave ps ns ms v) where
    abbrev w : World
    w = world_by ms v

    reached : IsReached w
    reached = weave_reached ps ns opens ms v weave

    more : (m : LocalMove) (u : System) (x : World) → HeardIn (sent_by ms) m → Moves m v u → x ≡ world_by (ms ++ m ∷ []) u → Woven x
    more m u x sent r is = record { moves = ms ++ m ∷ []; now = u; weave = longer [] ms m (new_system ps ns) v u weave sent r; is = is }

    -- no move is made
    unmoved : (x : World) → x ≡ w → Woven x
    unmoved x same = record { moves = ms; now = v; weave = weave; is = same }

    sent_none : with_sent w None ≡ w
    sent_none = ap (λ sent. let x : World = record w { sent = sent } in x) (append-nil w.sent)

    commands : (c : ClientId) (p : Party) (x : Command) (d : ClientState) → party_of c w ≡ Some p → client.command p.client x ≡ Ok d
        → Woven (commanded_world w p x d)
    commands c p x d at is =
        let t = party_from ms v c p at in
        let taken : client.command t.it.client x ≡ Ok d = ap (λ (q : Party). client.command q.client x) t.is ∙ is in
        more (Commanded c x (newest_block d)) (with_client (after_step d t.it) v) (commanded_world w p x d) tt
        (record { client = t.it; here = t.found; new = after_step d t.it; moves = record { new = d; taken = taken; tells = refl; after = refl }; after = refl })
        (ap (λ q. commanded_world w q x d) (sym t.is) ∙ takes_world ms v c x t.it d t.found taken)

    sends : (c : ClientId) (p : Party) (h : HandlerId) (s : Site) → party_of c w ≡ Some p → site_of h w ≡ Some s → Woven (with_sent w (due p.client h))
    sends c p h s at here =
        let t = party_from ms v c p at in
        by_test (λ _. Woven (with_sent w (due p.client h))) (has p.client.handlers h)
        (λ known.
        let named : has t.it.client.handlers h ≡ true = ap (λ (q : Party). has q.client.handlers h) t.is ∙ known in
        more (Sent c h (due t.it.client h)) v (with_sent w (due p.client h)) tt
        (record {
          client = t.it;
          here = t.found;
          new = t.it;
          moves = record { named = named; tells = refl; after = refl };
          after =
              sym (client_itself ms v reached c t.it t.found);
        })
        (ap (λ (q : Party). with_sent w (due q.client h)) (sym t.is) ∙ sent_world ms v c h t.it t.found (due t.it.client h)))
        (λ unknown. unmoved (with_sent w (due p.client h)) (ap (with_sent w) (none_due w reached c p at h unknown) ∙ sent_none))

    hears : (i : ℕ) (m : Message) (s : Site) → sent_at i w ≡ Some m → is_for_handler m ≡ true → site_of (handler_of m) w ≡ Some s
        → Woven (heard_world w s (hear s.core.state m))
    hears i m s was goes here =
        let h = handler_of m in
        let t = site_from ms v h s here in
        let own = key_found its_number same_handler handler_decides h v.handlers t.it t.found in
        let now = hear t.it.local.core.state m in
        let a : LocalHandler = after_hearing now.0 t.it.local in
        more (Heard h m now.1) (with_placed (with_local a t.it) v) (heard_world w s (hear s.core.state m)) (sent_in w i m was)
        (at_place h (Heard h m now.1) v t.it a t.found (record { new = a; moves = record { tells = refl; after = refl }; after = refl }))
        (ap (λ (x : Site). heard_world w x (hear x.core.state m)) (sym t.is) ∙ hearing.world_hears ms v h m t.it t.found own)

    notices : (i : ℕ) (m : Message) (p : Party) → sent_at i w ≡ Some m → is_for_handler m ≡ false → party_of (client_of m) w ≡ Some p
        → Woven (with_party w (heard_party p (heard p.client m)))
    notices i m p was goes at =
        let c = client_of m in
        let t = party_from ms v c p at in
        let own = key_found id_in same_client client_decides c v.clients t.it t.found in
        let now = heard t.it.client m in
        more (ClientHeard c m now.1) (with_client (after_step now.0 t.it) v) (with_party w (heard_party p (heard p.client m))) (sent_in w i m was)
        (record { client = t.it; here = t.found; new = after_step now.0 t.it; moves = record { tells = refl; after = refl }; after = refl })
        (ap (λ (q : Party). with_party w (heard_party q (heard q.client m))) (sym t.is) ∙ noticing.world_hears ms v c m t.it t.found own reached)

    begins : (h : HandlerId) (s : Site) (t : Task) → site_of h w ≡ Some s → ready s.core ≡ Some t → Woven (with_site w (begun_site s))
    begins h s t here is =
        let f = site_from ms v h s here in
        let told : Option (Block × ℕ) = option_map leaves (ready f.it.local.core) in
        let a : LocalHandler = after_begin f.it.local in
        more (Began h told) (with_placed (with_local a f.it) v) (with_site w (begun_site s)) tt
        (at_place h (Began h told) v f.it a f.found (record { new = a; moves = record { tells = refl; after = refl }; after = refl }))
        (ap (λ x. with_site w (begun_site x)) (sym f.is) ∙ begun_world ms v h f.it f.found (ready f.it.local.core))

    finishes : (h : HandlerId) (s : Site) (t : Task) → site_of h w ≡ Some s → job_out s.core ≡ Some t → Woven (with_site w (finished_site s t))
    finishes h s t here is =
        let f = site_from ms v h s here in
        let own = key_found its_number same_handler handler_decides h v.handlers f.it f.found in
        let a : LocalHandler = after_finish t f.it.local in
        more (Finished h (ran_of t)) (with_placed (with_local a f.it) v) (with_site w (finished_site s t)) tt
        (at_place h (Finished h (ran_of t)) v f.it a f.found (record {
          new = a;
          moves = record { task = t; out = ap (λ (x : Site). job_out x.core) f.is ∙ is; tells = refl; after = refl };
          after = refl;
        }))
        (ap (λ x. with_site w (finished_site x t)) (sym f.is) ∙ run_world ms v h f.it t f.found own)

    restarts : (c : ClientId) (p : Party) → party_of c w ≡ Some p → (p.stored == 4294967295) ≡ false → Woven (with_party w (restarted_party p))
    restarts c p at room =
        let t = party_from ms v c p at in
        let m : LocalMove = ClientRestarted c in
        more m (with_client (after_restart t.it) v) (with_party w (restarted_party p)) tt
        (record {
          client = t.it;
          here = t.found;
          new = after_restart t.it;
          moves =
              record { room = ap (λ (q : Party). q.stored == 4294967295) t.is ∙ room; after = refl };
          after = refl;
        })
        (ap (λ q. with_party w (restarted_party q)) (sym t.is) ∙ restarted_world ms v c t.it)

    none_reopen : (n : ℕ) (sites : List Site) → list_any (λ (s : Site). s.node == n) sites ≡ false → map (reopened n) sites ≡ sites
    none_reopen n [] none = refl
    none_reopen n (s ∷ ss) none =
        let both = or_parts (s.node == n) (list_any (λ (s : Site). s.node == n) ss) none in
        ap (λ t. (if t then record s { core = core_of s.core.class s.stored false } else s) ∷ map (reopened n) ss) both.0
        ∙ ap (λ xs. s ∷ xs) (none_reopen n ss both.1)

    reopens : (n : ℕ) → Woven (reopened_world w n)
    reopens n =
        by_test (λ _. Woven (reopened_world w n)) (list_any (λ (s : Site). s.node == n) w.sites)
        (λ e.
        let m : LocalMove = NodeReopened n in
        let u : System = record v { handlers = map (after_reopening n) v.handlers } in
        more m u (reopened_world w n) tt
        (record { some = sym (any_through (site_by ms) (λ (s : Site). s.node == n) v.handlers) ∙ e; after = refl })
        (reopened_same ms v n reached))
        (λ e. record { moves = ms; now = v; weave = weave; is = ap (λ ss. let x : World = record w { sites = ss } in x) (none_reopen n w.sites e) })

    all : Changes Woven w
    all = record {
      commands = commands;
      sends = sends;
      hears = hears;
      notices = notices;
      begins = begins;
      finishes = finishes;
      restarts = restarts;
      reopens =
          reopens;
    }

  woven_kept : (w : World) → Woven w → Changes Woven w
  woven_kept w i = subst (Changes Woven) (sym i.is) (all i.moves i.now i.weave)

  pub world_is_a_weave : (es : List Event) → IsOfWeave ps ns (steps (opening ps ns) es)
  world_is_a_weave es = steps_kept Woven woven_kept (opening ps ns) es (record { moves = []; now = new_system ps ns; weave = refl; is = opens_same ps ns })
