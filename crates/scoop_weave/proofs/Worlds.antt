-- The world of moves, once one more is made.
use Rattle.scoop_weave.proofs.Names.{true, ◌≡◌, false, List, [], ◌∷◌, ◌++◌, map, Some, refl, sym, ap, ◌∙◌, subst, append-nil, option_map, map-map, Block}
use Rattle.scoop_weave.proofs.Names.{HandlerId, ClientId, Message, same_handler, same_client, handler_decides, client_decides, has, World, is_party, Site}
use Rattle.scoop_weave.proofs.Names.{Party, BlockLog, number_of, is_site, site_of, party_of, joined, IsReached, NoRepeats, SiteFits, all_found, KnowsSites, clients_know}
use Rattle.scoop_weave.proofs.Names.{reached_ordered, PlacedHandler, LocalClient, System, IsStored, its_number, id_in, placed_in, client_in, newer_placed}
use Rattle.scoop_weave.proofs.Names.{with_placed, with_client, LocalMove, sent_in, sent_by, opened_in, opened_here, ran_here, accepted_here, logs_more, logs_by}
use Rattle.scoop_weave.proofs.Names.{joint_by, site_by, party_by, world_by}
use Rattle.scoop_model.specs.World.{id_of, set_site, set_party}
use Rattle.scoop_model.proofs.Reaching.{sites_apart, parties_apart}
use Rattle.scoop_weave.specs.System.{newer_client}
use Rattle.scoop_weave.proofs.Lists.{find_through, set_through, map_through, put_itself, has_found}
use Rattle.scoop_weave.proofs.Telling.{sent_more, logged_more, joint_more, site_stays, party_stays}

-- all parts of a world
abbrev pub world_of : List Site → List Party → List Message → List Block → List BlockLog → World
world_of sites parties sent joint logs = record { sites = sites; parties = parties; sent = sent; joint = joint; logs = logs }

pub same_world : (a b : List Site) (c d : List Party) (e f : List Message) (g h : List Block) (k l : List BlockLog) → a ≡ b → c ≡ d → e ≡ f → g ≡ h → k ≡ l
    → world_of a c e g k ≡ world_of b d f h l
same_world a b c d e f g h k l sites parties sent joint logs = λ i. world_of (sites i) (parties i) (sent i) (joint i) (logs i)

-- ---- look-ups

pub site_there : (past : List LocalMove) (v : System) (h : HandlerId) (s : PlacedHandler) → placed_in h v ≡ Some s
    → site_of h (world_by past v) ≡ Some (site_by past s)
site_there past v h s here = find_through number_of same_handler (site_by past) h v.handlers ∙ ap (option_map (site_by past)) here

pub party_there : (past : List LocalMove) (v : System) (c : ClientId) (d : LocalClient) → client_in c v ≡ Some d
    → party_of c (world_by past v) ≡ Some (party_by past d)
party_there past v c d here = find_through id_of same_client (party_by past) c v.clients ∙ ap (option_map (party_by past)) here

-- ---- in a world that is reached

module _ (past : List LocalMove) (v : System) (reached : IsReached (world_by past v)) where
  clients_apart : NoRepeats (map id_in v.clients)
  clients_apart = subst NoRepeats (map-map id_of (party_by past) v.clients) (parties_apart (world_by past v) reached)

  pub stored_state : (h : HandlerId) (s : PlacedHandler) → placed_in h v ≡ Some s → IsStored s
  stored_state h s here =
      let w = world_by past v in
      (all_found (SiteFits w.joint) (is_site h) w.sites (site_by past s) (reached_ordered w reached).sites (site_there past v h s here)).stored

  pub site_itself : (h : HandlerId) (s : PlacedHandler) → placed_in h v ≡ Some s
      → set_site (site_by past s) (map (site_by past) v.handlers) ≡ map (site_by past) v.handlers
  site_itself h s here =
      put_itself number_of same_handler handler_decides h (map (site_by past) v.handlers) (site_by past s) (sites_apart (world_by past v) reached)
      (site_there past v h s here)

  pub client_itself : (c : ClientId) (d : LocalClient) → client_in c v ≡ Some d → with_client d v ≡ v
  client_itself c d here =
      ap (λ cs. let u : System = record v { clients = cs } in u)
      (put_itself id_in same_client client_decides c v.clients d clients_apart here)

  -- a handler that a client knows is one of the handlers
  pub receiver_there : (c : ClientId) (d : LocalClient) (h : HandlerId) → client_in c v ≡ Some d → has d.client.handlers h ≡ true → (s : PlacedHandler)
      × (placed_in h v ≡ Some s)
  receiver_there c d h here named =
      let w = world_by past v in
      let all : KnowsSites w (party_by past d) = all_found (KnowsSites w) (is_party c) w.parties (party_by past d) (clients_know w reached)
      (party_there past v c d here) in
      has_found its_number same_handler h v.handlers (ap (λ hs. has hs h) (sym (map-map number_of (site_by past) v.handlers)) ∙ all h named)

-- ---- one move more

module _ (past : List LocalMove) (m : LocalMove) (v : System) where
  abbrev more : List LocalMove
  more = past ++ m ∷ []

  -- a move that tells nothing of this handler
  pub record IsElsewhere (h : HandlerId) : Type 0 where
    pub opened : opened_here h m ≡ []
    pub ran : ran_here h m ≡ []

  pub sites_changed :
      (a : PlacedHandler) (t : Site) → t ≡ site_by more a → ((x : PlacedHandler) → same_handler (its_number x) (its_number a) ≡ false → IsElsewhere (its_number x))
      → set_site t (map (site_by past) v.handlers) ≡ map (site_by more) (map (newer_placed a) v.handlers)
  sites_changed a t is others =
      subst (λ t. set_site t (map (site_by past) v.handlers) ≡ map (site_by more) (map (newer_placed a) v.handlers)) (sym is)
      (set_through number_of same_handler (site_by past) (site_by more) (site_by more a) a v.handlers refl
      (λ x e. let f = others x e in site_stays past m x f.opened f.ran))

  pub sites_same : ((h : HandlerId) → IsElsewhere h) → map (site_by past) v.handlers ≡ map (site_by more) v.handlers
  sites_same f = map_through (site_by past) (site_by more) v.handlers (λ x. site_stays past m x (f (its_number x)).opened (f (its_number x)).ran)

  pub parties_changed :
      (a : LocalClient) (t : Party) → t ≡ party_by more a → ((x : LocalClient) → same_client (id_in x) (id_in a) ≡ false → accepted_here (id_in x) m ≡ [])
      → set_party t (map (party_by past) v.clients) ≡ map (party_by more) (map (newer_client a) v.clients)
  parties_changed a t is others =
      subst (λ t. set_party t (map (party_by past) v.clients) ≡ map (party_by more) (map (newer_client a) v.clients)) (sym is)
      (set_through id_of same_client (party_by past) (party_by more) (party_by more a) a v.clients refl (λ x e. party_stays past m x (others x e)))

  pub parties_same : ((c : ClientId) → accepted_here c m ≡ []) → map (party_by past) v.clients ≡ map (party_by more) v.clients
  parties_same f = map_through (party_by past) (party_by more) v.clients (λ x. party_stays past m x (f (id_in x)))

  pub nothing_sent : sent_in m ≡ [] → sent_by past ≡ sent_by more
  nothing_sent none = sym (append-nil (sent_by past)) ∙ ap (λ ms. sent_by past ++ ms) (sym none) ∙ sym (sent_more past m)

  pub nothing_opened : opened_in m ≡ [] → joint_by past ≡ joint_by more
  nothing_opened none = ap (joined (joint_by past)) (sym none) ∙ sym (joint_more past m)

  pub nothing_logged : logs_more (logs_by past) m ≡ logs_by past → logs_by past ≡ logs_by more
  nothing_logged same = sym same ∙ sym (logged_more past m)

  -- a move that tells nothing
  pub record IsSilent : Type 0 where
    pub sent : sent_in m ≡ []
    pub opened : opened_in m ≡ []
    pub handlers : (h : HandlerId) → IsElsewhere h
    pub clients : (c : ClientId) → accepted_here c m ≡ []
    pub logs : logs_more (logs_by past) m ≡ logs_by past

  -- and by which the handler shows the same
  pub site_unmoved : IsReached (world_by past v) → (h : HandlerId) (s a : PlacedHandler) → placed_in h v ≡ Some s → IsSilent → site_by past s ≡ site_by more a
      → world_by past v ≡ world_by more (with_placed a v)
  site_unmoved reached h s a here silent same =
      same_world _ _ _ _ _ _ _ _ _ _
      (sym (site_itself past v reached h s here) ∙ sites_changed a (site_by past s) same (λ x e. silent.handlers (its_number x)))
      (parties_same silent.clients) (nothing_sent silent.sent) (nothing_opened silent.opened) (nothing_logged silent.logs)

  pub told_nothing : IsSilent → world_by past v ≡ world_by more v
  told_nothing silent =
      same_world _ _ _ _ _ _ _ _ _ _ (sites_same silent.handlers) (parties_same silent.clients)
      (nothing_sent silent.sent) (nothing_opened silent.opened) (nothing_logged silent.logs)
