-- Where each party's own moves lead it by themselves, and what is heard was sent before, all moves are a weave. The first of
-- them is the first of the own moves of whom it concerns, who goes on by it while all others stay. Numbers, nodes and names
-- stay, so the system is one of the same parties again, and the rest of the moves leads on from there.
use Rattle.scoop_weave.proofs.Names.{⊤, ◌≡◌, ℕ, ◌==◌, Bool, true, false, List, [], ◌∷◌, ◌++◌, map, refl, sym, ap, ◌∙◌, subst, if◌then◌else◌, list_any}
use Rattle.scoop_weave.proofs.Names.{AllByRecursion, map-map, ClientId, HandlerId, same_handler, same_client, handler_decides, client_decides, HandlerState}
use Rattle.scoop_weave.proofs.Names.{opening_state, opening_handler, hear, row, number-row, heard, heard_row, Placement, Newcomer, MayOpen, NoRepeats, by_test}
use Rattle.scoop_weave.proofs.Names.{key_found, onward_heard, onward_commanded, PlacedHandler, LocalClient, System, its_number, id_in, on_node, after_reopening}
use Rattle.scoop_weave.proofs.Names.{new_placed, new_client, new_system, IsStored, stored_in, with_local, LocalMove, Heard, Began, Finished, NodeReopened}
use Rattle.scoop_weave.proofs.Names.{Commanded, Sent, ClientHeard, ClientRestarted, HandlerMoves, ClientMoves, AtHandler, AtNode, AtClient, Moves, IsWeave}
use Rattle.scoop_weave.proofs.Names.{is_at, is_by, EachHandler, EachClient, HeardAfterSent, has_handler, has_node, has_client, IsMember, IsWoven, Weave}
use Rattle.std.proofs.lemmas.List.Elements.{same_from_all_zip}
use Rattle.std.specs.List.{AllZip}
use Rattle.scoop_weave.proofs.Lists.{zip_more, zip_same, zip_all, all_of_any, has_found}
use Rattle.scoop_weave.proofs.Telling.{went}
use Rattle.scoop_weave.proofs.Steps.{EachStep, keys_stay, all_stay, all_go, one_goes, all_onward}
use Rattle.scoop_weave.proofs.Executing.{any_through}

-- ---- a handler

pub record HandlerKept (s t : PlacedHandler) : Type 0 where
  pub number : its_number t ≡ its_number s
  pub node : t.node ≡ s.node
  pub stored : IsStored t

pub handler_kept : (m : LocalMove) (s t : PlacedHandler) → IsStored s → HandlerMoves m s t → HandlerKept s t
handler_kept (Heard h x told) s t is r =
    let state : HandlerState = s.local.core.state in
    subst (HandlerKept s) (sym (went r r.moves.after))
    (record { number = number-row state x (hear state x) (row state x); node = refl; stored = refl })
handler_kept (Began h told) s t is r = subst (HandlerKept s) (sym (went r r.moves.after)) (record { number = refl; node = refl; stored = is })
handler_kept (Finished h ran) s t is r = subst (HandlerKept s) (sym (went r r.moves.after)) (record { number = refl; node = refl; stored = refl })
handler_kept (NodeReopened n) s t is r =
    let number : (stored_in s).number ≡ its_number s = ap (λ (x : HandlerState). x.number) is in
    let anew : PlacedHandler = with_local (opening_handler (its_number s) s.local.core.class s.placed s.local.stored) s in
    subst (HandlerKept s) (sym r)
    (by_test (λ t. HandlerKept s (if t then anew else s)) (on_node n s)
    (λ here. record { number = number; node = refl; stored = ap (λ h. opening_state h s.placed s.local.stored) number })
    (λ there. record { number = refl; node = refl; stored = is }))
handler_kept m s t is r = absurd r

abbrev pub AllStored : List PlacedHandler → Type 0
AllStored xs = AllByRecursion IsStored xs

-- the move is one of the handler
abbrev concerns : LocalMove → PlacedHandler → Bool
concerns m s = is_at (its_number s) s.node m

same_concern : (x y : PlacedHandler) → HandlerKept x y → (m : LocalMove) → concerns m x ≡ concerns m y
same_concern x y kept m = λ i. is_at (sym kept.number i) (sym kept.node i) m

-- ---- a client

pub client_kept : (m : LocalMove) (c d : LocalClient) → ClientMoves m c d → id_in d ≡ id_in c
client_kept (Commanded z y b) c d r = ap id_in r.after ∙ (onward_commanded c.client y r.new r.taken).id
client_kept (Sent z h y) c d r = ap id_in r.after
client_kept (ClientHeard z y note) c d r = ap id_in r.after ∙ (onward_heard c.client y (heard c.client y).0 (heard c.client y).1 (heard_row c.client y)).id
client_kept (ClientRestarted z) c d r = ap id_in r.after
client_kept m c d r = absurd r

abbrev is_its : LocalMove → LocalClient → Bool
is_its m c = is_by (id_in c) m

-- ---- one move

abbrev system : List PlacedHandler → List LocalClient → System
system hs cs = record { handlers = hs; clients = cs }

module _ (ps : List Placement) (ns : List Newcomer) (opens : MayOpen ps ns) where
  record Fits (v : System) : Type 0 where
    numbers : map its_number v.handlers ≡ map (λ (p : Placement). p.handler) ps
    nodes : map (λ (s : PlacedHandler). s.node) v.handlers ≡ map (λ (p : Placement). p.node) ps
    ids : map id_in v.clients ≡ map (λ (n : Newcomer). n.id) ns
    stored : AllStored v.handlers

  abbrev HandlersStep : LocalMove → List PlacedHandler → List PlacedHandler → Type 0
  HandlersStep m xs us = EachStep its_number same_handler handler_decides (HandlerMoves m) (concerns m) xs us

  abbrev ClientsStep : LocalMove → List LocalClient → List LocalClient → Type 0
  ClientsStep m cs ds = EachStep id_in same_client client_decides (ClientMoves m) (is_its m) cs ds

  module _ (v : System) (fits : Fits v) (us : List PlacedHandler) (ds : List LocalClient) where
    at_handler :
        (h : HandlerId) (m : LocalMove) → ((s : PlacedHandler) → is_at (its_number s) s.node m ≡ same_handler h (its_number s))
        → ((c : LocalClient) → is_by (id_in c) m ≡ false)
        → has_handler ps h ≡ true → HandlersStep m v.handlers us → ClientsStep m v.clients ds → AtHandler h m v (system us ds)
    at_handler h m at none member steps stay =
        let found = has_found its_number same_handler h v.handlers (ap (list_any (λ k. same_handler k h)) fits.numbers ∙ member) in
        let own = key_found its_number same_handler handler_decides h v.handlers found.0 found.1 in
        let g = one_goes its_number same_handler handler_decides (HandlerMoves m) (concerns m) h at v.handlers us found.0 steps
        (subst NoRepeats (sym fits.numbers) opens.apart) found.1 own in
        let still = all_stay id_in same_client client_decides (ClientMoves m) (is_its m) v.clients ds stay none in
        record { handler = found.0; here = found.1; new = g.new; moves = g.moves; after = λ i. system (g.after i) (still i) }

    at_client :
        (c : ClientId) (m : LocalMove) → ((d : LocalClient) → is_by (id_in d) m ≡ same_client c (id_in d))
        → ((s : PlacedHandler) → is_at (its_number s) s.node m ≡ false)
        → has_client ns c ≡ true → HandlersStep m v.handlers us → ClientsStep m v.clients ds → AtClient c m v (system us ds)
    at_client c m at none member stay steps =
        let found = has_found id_in same_client c v.clients (ap (list_any (λ k. same_client k c)) fits.ids ∙ member) in
        let own = key_found id_in same_client client_decides c v.clients found.0 found.1 in
        let g = one_goes id_in same_client client_decides (ClientMoves m) (is_its m) c at v.clients ds found.0 steps
        (subst NoRepeats (sym fits.ids) opens.clients_apart) found.1 own in
        let still = all_stay its_number same_handler handler_decides (HandlerMoves m) (concerns m) v.handlers us stay none in
        record { client = found.0; here = found.1; new = g.new; moves = g.moves; after = λ i. system (still i) (g.after i) }

    at_node : (n : ℕ) → has_node ps n ≡ true → HandlersStep (NodeReopened n) v.handlers us → ClientsStep (NodeReopened n) v.clients ds
        → AtNode n v (system us ds)
    at_node n member steps stay =
        let m : LocalMove = NodeReopened n in
        let all = all_go its_number same_handler handler_decides (HandlerMoves m) (concerns m) (after_reopening n) v.handlers us steps (λ x u r. r)
        (λ x e. ap (λ t. if t then with_local (opening_handler (its_number x) x.local.core.class x.placed x.local.stored) x else x) e) in
        let still = all_stay id_in same_client client_decides (ClientMoves m) (is_its m) v.clients ds stay (λ c. refl) in
        record {
          some = sym (any_through (λ (s : PlacedHandler). s.node) (λ k. k == n) v.handlers) ∙ (ap (list_any (λ k. k == n)) fits.nodes ∙ member);
          after = λ i. system (all i) (still i);
        }

    moves_on : (m : LocalMove) → IsMember ps ns m → HandlersStep m v.handlers us → ClientsStep m v.clients ds → Moves m v (system us ds)
    moves_on (Heard h x told) member a b = at_handler h (Heard h x told) (λ s. refl) (λ c. refl) member a b
    moves_on (Began h told) member a b = at_handler h (Began h told) (λ s. refl) (λ c. refl) member a b
    moves_on (Finished h ran) member a b = at_handler h (Finished h ran) (λ s. refl) (λ c. refl) member a b
    moves_on (NodeReopened n) member a b = at_node n member a b
    moves_on (Commanded c x y) member a b = at_client c (Commanded c x y) (λ d. refl) (λ s. refl) member a b
    moves_on (Sent c h x) member a b = at_client c (Sent c h x) (λ d. refl) (λ s. refl) member a b
    moves_on (ClientHeard c x note) member a b = at_client c (ClientHeard c x note) (λ d. refl) (λ s. refl) member a b
    moves_on (ClientRestarted c) member a b = at_client c (ClientRestarted c) (λ d. refl) (λ s. refl) member a b

  -- ---- all moves

  weaves :
      (past ms : List LocalMove) (v w : System) → Fits v → EachHandler ms v.handlers w.handlers → EachClient ms v.clients w.clients → HeardAfterSent past ms
      → AllByRecursion (IsMember ps ns) ms
      → IsWeave past v ms w
  weaves past [] v w fits hs cs sent members =
      let same_handlers = same_from_all_zip (λ s t. s ≡ t) v.handlers w.handlers hs (λ s t e. sym e) in
      let same_clients = same_from_all_zip (λ c d. c ≡ d) v.clients w.clients cs (λ c d e. sym e) in
      sym (λ i. system (same_handlers i) (same_clients i))
  weaves past (m ∷ ms) v w fits hs cs sent members =
      let a = all_onward HandlerMoves concerns IsStored HandlerKept handler_kept (λ x is. record { number = refl; node = refl; stored = is }) same_concern
      m ms v.handlers w.handlers fits.stored hs in
      let b = all_onward ClientMoves is_its (λ c. ⊤) (λ c d. id_in d ≡ id_in c) (λ m c d is r. client_kept m c d r) (λ c is. refl)
      (λ c d kept m. ap (λ k. is_by k m) (sym kept)) m ms v.clients w.clients (all_of_any v.clients) cs in
      let kept : AllZip HandlerKept v.handlers a.new = zip_more (λ x u s. s.1) v.handlers a.new a.steps in
      let new : Fits (system a.new b.new) = record {
        numbers = zip_same HandlerKept its_number (λ x u k. k.number) v.handlers a.new kept ∙ fits.numbers;
        nodes = zip_same HandlerKept (λ s. s.node) (λ x u k. k.node) v.handlers a.new kept ∙ fits.nodes;
        ids = keys_stay id_in same_client client_decides (ClientMoves m) (is_its m) v.clients b.new b.steps ∙ fits.ids;
        stored = zip_all HandlerKept IsStored IsStored (λ x u is k. k.stored) v.handlers a.new fits.stored kept;
      } in
      let steps : HandlersStep m v.handlers a.new = zip_more (λ x u s. (s.0, s.1.number)) v.handlers a.new a.steps in (
        system a.new b.new,
        sent.0,
        moves_on v fits a.new b.new m members.0 steps b.steps,
        weaves (past ++ m ∷ []) ms
            (system a.new b.new) w new a.rest b.rest sent.1 members.1,
      )

  pub stored_open : (qs : List Placement) → AllStored (map new_placed qs)
  stored_open [] = tt
  stored_open (q ∷ qs) = (refl, stored_open qs)

  pub woven_is_weave : (ms : List LocalMove) (now : System) → IsWoven ps ns ms now → Weave ps ns ms now
  woven_is_weave ms now woven =
      let new : Fits (new_system ps ns) = record {
        numbers = map-map its_number new_placed ps;
        nodes = map-map (λ (s : PlacedHandler). s.node) new_placed ps;
        ids = map-map id_in new_client ns;
        stored = stored_open ps;
      } in
      weaves [] ms (new_system ps ns) now new woven.handlers woven.clients woven.sent woven.members
