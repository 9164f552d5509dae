-- A job that leaves, a job that has run and a node that restarts are the events of that name. Where no job could leave there is
-- no event, and the handler stays. A restart gives each handler of the node its stored state. In a reached world that is the
-- handler's own state, so its number stays, and so does all that opened and ran there.
use Rattle.scoop_weave.proofs.Names.{◌≡◌, ℕ, ◌==◌, Bool, true, false, ◌||◌, List, [], ◌∷◌, ◌++◌, map, Option, Some, None, is_some, refl, sym, ap, ◌∙◌, subst}
use Rattle.scoop_weave.proofs.Names.{append-nil, if◌then◌else◌, Ok, Err, list_any, AllByRecursion, option_map, Block, HandlerId, same_handler, handler_decides}
use Rattle.scoop_weave.proofs.Names.{Ran, HandlerState, core_of, local_handler, opening_state, opening_handler, after_begin, after_finish, leaves, Task, ready}
use Rattle.scoop_weave.proofs.Names.{job_out, ran_of, World, Site, site_of, step, with_site, begun_site, finished_site, reopened, reopened_world, IsReached}
use Rattle.scoop_weave.proofs.Names.{by_test, key_found, SiteFits, reached_ordered, PlacedHandler, System, its_number, placed_in, with_local, with_placed}
use Rattle.scoop_weave.proofs.Names.{after_reopening, LocalMove, Began, Finished, NodeReopened, AtHandler, AtNode, sent_by, ran_here, opened_by, ran_by}
use Rattle.scoop_weave.proofs.Names.{site_with, site_by, world_by, event_in}
use Rattle.scoop_handler.specs.Core.{Core}
use Rattle.scoop_handler.specs.Running.{begun}
use Rattle.scoop_model.specs.declared.event.Event.TheVariants.{Begin, Finish, NodeRestart}
use Rattle.scoop_model.specs.declared.error.WorldError.TheVariants.{NoSuchParty}
use Rattle.scoop_model.specs.Step.{begins, begin_at, finishes, finish_at}
use Rattle.scoop_weave.specs.Histories.{begin_event}
use Rattle.scoop_model.specs.declared.note.WorldNote.TheVariants as note
use Rattle.scoop_weave.proofs.Lists.{itself, apart, from_false}
use Rattle.scoop_weave.proofs.Brings.{Brings, brings_none, brings_one}
use Rattle.scoop_weave.proofs.Telling.{went, site_stays, site_goes_on}
use Rattle.scoop_weave.proofs.Worlds.{same_world, site_there, sites_changed, parties_same, nothing_sent, nothing_opened, nothing_logged, IsElsewhere, IsSilent}
use Rattle.scoop_weave.proofs.Worlds.{site_unmoved}

-- ---- a job goes out

module _ (past : List LocalMove) (v : System) (h : HandlerId) (s : PlacedHandler) (here : placed_in h v ≡ Some s) where
  abbrev w : World
  w = world_by past v

  abbrev left : PlacedHandler
  left = with_local (after_begin s.local) s

  abbrev told : Option Task → Option (Block × ℕ)
  told o = option_map leaves o

  abbrev after : Option Task → World
  after o = world_by (past ++ Began h (told o) ∷ []) (with_placed left v)

  silent : (o : Option Task) → IsSilent past (Began h (told o)) v
  silent o = record { sent = refl; opened = refl; handlers = λ k. record { opened = refl; ran = refl }; clients = λ c. refl; logs = refl }

  no_more : (c : Core) → ready c ≡ None → begun c ≡ c
  no_more c e = ap (λ o. core_of c.class c.state (c.out || is_some o)) e
      ∙ by_test (λ t. core_of c.class c.state (t || false) ≡ core_of c.class c.state t) c.out (λ out. refl) (λ free. refl)

  pub begun_world : (o : Option Task) → with_site w (begun_site (site_by past s)) ≡ after o
  begun_world o =
      let m : LocalMove = Began h (told o) in
      same_world _ _ _ _ _ _ _ _ _ _
      (sites_changed past m v left (begun_site (site_by past s)) (site_stays past m left refl refl)
      (λ x e. record { opened = refl; ran = refl }))
      (parties_same past m v (λ c. refl))
      (nothing_sent past m v refl) (nothing_opened past m v refl) (nothing_logged past m v refl)

  begin_brings : (o : Option Task) → IsReached w → ready s.local.core ≡ o → Brings w (begin_event h (told o)) (after o)
  begin_brings None reached e =
      let m : LocalMove = Began h None in
      let shows : site_by past s ≡ site_by past left = ap (λ c. site_by past (with_local (local_handler c s.local.stored) s)) (sym (no_more s.local.core e)) in
      brings_none w (after None) (site_unmoved past m v reached h s left here (silent None) (shows ∙ site_stays past m left refl refl))
  begin_brings (Some t) reached e =
      let is : begin_at w (site_of h w) ≡ Ok (with_site w (begun_site (site_by past s)), note.Began t.block t.number) =
      ap (begin_at w) (site_there past v h s here) ∙ ap (begins w (site_by past s)) e in
      brings_one w (after (Some t)) (with_site w (begun_site (site_by past s))) (Begin h) (note.Began t.block t.number) is (begun_world (Some t))

pub begins_brings :
    (past : List LocalMove) (v u : System) (h : HandlerId) (told : Option (Block × ℕ)) → IsReached (world_by past v) → AtHandler h (Began h told) v u
    → Brings (world_by past v) (event_in (sent_by past) (Began h told)) (world_by (past ++ Began h told ∷ []) u)
begins_brings past v u h told reached r =
    let w : World = world_by past v in
    let shown : Option (Block × ℕ) = option_map leaves (ready r.handler.local.core) in
    subst (λ t. Brings w (begin_event h t) (world_by (past ++ Began h t ∷ []) u)) (sym r.moves.moves.tells)
    (subst (λ x. Brings w (begin_event h shown) (world_by (past ++ Began h shown ∷ []) x))
    (sym (r.after ∙ ap (λ x. with_placed x v) (went r.moves r.moves.moves.after)))
    (begin_brings past v h r.handler r.here (ready r.handler.local.core) reached refl))

-- ---- a job has run

module _ (past : List LocalMove) (v : System) (h : HandlerId) (s : PlacedHandler) (t : Task) (here : placed_in h v ≡ Some s) (own : its_number s ≡ h) where
  abbrev move : LocalMove
  move = Finished h (ran_of t)

  abbrev a : PlacedHandler
  a = with_local (after_finish t s.local) s

  abbrev more : List LocalMove
  more = past ++ move ∷ []

  runs_here : ran_here (its_number a) move ≡ ran_of t ∷ []
  runs_here = ap (λ k. if same_handler h k then ran_of t ∷ [] else []) own ∙ ap (λ u. if u then ran_of t ∷ [] else []) (itself same_handler handler_decides h)

  elsewhere : (x : PlacedHandler) → same_handler (its_number x) (its_number a) ≡ false → IsElsewhere past move v (its_number x)
  elsewhere x e = record {
    opened = refl;
    ran =
        ap (λ u. if u then ran_of t ∷ [] else [])
        (apart same_handler handler_decides h (its_number x) (λ f. from_false same_handler handler_decides (its_number x) (its_number a) e (sym f ∙ sym own)));
  }

  site_runs : finished_site (site_by past s) t ≡ site_by more a
  site_runs =
      let opened_to : opened_by (its_number a) past ≡ opened_by (its_number a) past ++ [] = sym (append-nil (opened_by (its_number a) past)) in
      let to : finished_site (site_by past s) t ≡ site_with a (opened_by (its_number a) past ++ []) (ran_by (its_number a) past ++ ran_of t ∷ []) =
      λ i. site_with a (opened_to i) (ran_by (its_number a) past ++ ran_of t ∷ []) in
      to ∙ site_goes_on past move a [] (ran_of t ∷ []) refl runs_here

  pub run_world : with_site (world_by past v) (finished_site (site_by past s) t) ≡ world_by more (with_placed a v)
  run_world =
      same_world _ _ _ _ _ _ _ _ _ _
      (sites_changed past move v a (finished_site (site_by past s) t) site_runs elsewhere)
      (parties_same past move v (λ c. refl))
      (nothing_sent past move v refl) (nothing_opened past move v refl) (nothing_logged past move v refl)

  finish_brings : job_out s.local.core ≡ Some t → Brings (world_by past v) (Finish h ∷ []) (world_by more (with_placed a v))
  finish_brings e =
      let w : World = world_by past v in
      let is : finish_at w (site_of h w) ≡ Ok (with_site w (finished_site (site_by past s) t), note.Ran (ran_of t)) =
      ap (finish_at w) (site_there past v h s here) ∙ ap (finishes w (site_by past s)) e in
      brings_one w (world_by more (with_placed a v)) (with_site w (finished_site (site_by past s) t)) (Finish h) (note.Ran (ran_of t)) is run_world

pub finishes_brings :
    (past : List LocalMove) (v u : System) (h : HandlerId) (ran : Ran) → AtHandler h (Finished h ran) v u
    → Brings (world_by past v) (event_in (sent_by past) (Finished h ran)) (world_by (past ++ Finished h ran ∷ []) u)
finishes_brings past v u h ran r =
    let w : World = world_by past v in
    let own = key_found its_number same_handler handler_decides h v.handlers r.handler r.here in
    subst (λ t. Brings w (Finish h ∷ []) (world_by (past ++ Finished h t ∷ []) u)) (sym r.moves.moves.tells)
    (subst (λ x. Brings w (Finish h ∷ []) (world_by (past ++ Finished h (ran_of r.moves.moves.task) ∷ []) x))
    (sym (r.after ∙ ap (λ x. with_placed x v) (went r.moves r.moves.moves.after)))
    (finish_brings past v h r.handler r.moves.moves.task r.here own r.moves.moves.out))

-- ---- a node restarts

pub any_through : {A B : Type 0} (f : A → B) (p : B → Bool) (xs : List A) → list_any p (map f xs) ≡ list_any (λ x. p (f x)) xs
any_through f p [] = refl
any_through f p (x ∷ xs) = ap (λ t. p (f x) || t) (any_through f p xs)

module _ (past : List LocalMove) (n : ℕ) where
  abbrev restart : LocalMove
  restart = NodeReopened n

  abbrev then_on : List LocalMove
  then_on = past ++ restart ∷ []

  one_reopens : (x : PlacedHandler) (js : List Block) → SiteFits js (site_by past x) → reopened n (site_by past x) ≡ site_by then_on (after_reopening n x)
  one_reopens x js fits =
      let back : PlacedHandler = with_local (opening_handler (its_number x) x.local.core.class x.placed x.local.stored) x in
      let number : its_number x ≡ its_number back = sym (ap (λ (s : HandlerState). s.number) fits.stored) in
      let anew : HandlerId → Site = λ h. record {
        node = x.node;
        placed = x.placed;
        core = back.local.core;
        stored = opening_state h x.placed x.local.stored;
        opened = opened_by h past;
        ran = ran_by h past;
      } in
      let to : anew (its_number x) ≡ site_by past back = ap anew number in
      by_test (λ t. (if t then anew (its_number x) else site_by past x)
      ≡ site_by then_on (if t then back else x)) (x.node == n)
      (λ here. to ∙ site_stays past restart back refl refl)
      (λ there. site_stays past restart x refl refl)

  all_reopen : (xs : List PlacedHandler) (js : List Block) → AllByRecursion (SiteFits js) (map (site_by past) xs)
      → map (reopened n) (map (site_by past) xs) ≡ map (site_by then_on) (map (after_reopening n) xs)
  all_reopen [] js all = refl
  all_reopen (x ∷ xs) js all =
      ap (λ s. s ∷ map (reopened n) (map (site_by past) xs)) (one_reopens x js all.0)
      ∙ ap (λ ss. site_by then_on (after_reopening n x) ∷ ss) (all_reopen xs js all.1)

pub reopened_same : (past : List LocalMove) (v : System) (n : ℕ) → IsReached (world_by past v)
    → reopened_world (world_by past v) n ≡ world_by (past ++ NodeReopened n ∷ []) (record v { handlers = map (after_reopening n) v.handlers })
reopened_same past v n reached =
    let m : LocalMove = NodeReopened n in
    let w : World = world_by past v in
    same_world _ _ _ _ _ _ _ _ _ _ (all_reopen past n v.handlers w.joint (reached_ordered w reached).sites) (parties_same past m v (λ c. refl))
    (nothing_sent past m v refl) (nothing_opened past m v refl) (nothing_logged past m v refl)

pub reopens_brings :
    (past : List LocalMove) (v u : System) (n : ℕ) → IsReached (world_by past v) → AtNode n v u
    → Brings (world_by past v) (event_in (sent_by past) (NodeReopened n)) (world_by (past ++ NodeReopened n ∷ []) u)
reopens_brings past v u n reached r =
    let w : World = world_by past v in
    let m : LocalMove = NodeReopened n in
    let new : System = record v { handlers = map (after_reopening n) v.handlers } in
    let some : list_any (λ (s : Site). s.node == n) w.sites ≡ true = any_through (site_by past) (λ (s : Site). s.node == n) v.handlers ∙ r.some in
    let is : step w (NodeRestart n) ≡ Ok (reopened_world w n, note.Reopened) =
    ap (λ t. if t then Ok (reopened_world w n, note.Reopened) else Err NoSuchParty) some in
    subst (λ x. Brings w (NodeRestart n ∷ []) (world_by (past ++ m ∷ []) x)) (sym r.after)
    (brings_one w (world_by (past ++ m ∷ []) new) (reopened_world w n) (NodeRestart n) note.Reopened is (reopened_same past v n reached))
