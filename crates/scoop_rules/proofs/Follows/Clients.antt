-- Clients that log nothing: a reserve, a block given up and what a client hears leave the configuration, and a restart
-- is a restart.
use Rattle.scoop_rules.proofs.Names.{◌≡◌, ℕ, ◌+◌, List, [], ◌∷◌, Some, refl, sym, ap, ◌∙◌, subst, Ok, Option, find, true, if◌then◌else◌, unwrap_or}
use Rattle.scoop_rules.proofs.Names.{option_map_or, client_decides, client_of, same_client, Message, Block, ClientId, HandlerId, all_found, by_test, has, heard}
use Rattle.scoop_rules.proofs.Names.{ClientState, Command, Reserve, GiveUp, by_party, id_found, newest_block, commanded_world, with_party, heard_party}
use Rattle.scoop_rules.proofs.Names.{restarted_party, World, Party, set_party, is_party, sent_at, has_block, log_of, party_of, id_of, inc_of, set_of}
use Rattle.scoop_rules.proofs.Names.{reserved_same, goes_on, PartyFits, Ordered, handlers_after, configuration_of, queue_at, queue_of, seen, Objects, Restart}
use Rattle.scoop_rules.proofs.Names.{MovesLead, put_at_client, restart}
use Rattle.scoop_model.proofs.Names.{command}
use Rattle.scoop_model.proofs.Order.Clients.{keeps_hearing}
use Rattle.scoop_rules.proofs.Lists.{same_configuration, queues_same}

abbrev inc_in : Option Party → ℕ
inc_in o = option_map_or (λ (y : Party). y.client.inc) o 0

-- ---- one client's incarnation

module _ (w : World) (c : ClientId) (p q : Party) (at : party_of c w ≡ Some p) (own : id_of q ≡ id_of p) where
  own_place : party_of (id_of q) w ≡ Some p
  own_place = subst (λ j. party_of j w ≡ Some p) (sym (own ∙ id_found c w p at)) at

  pub inc_there : inc_of w c ≡ p.client.inc
  inc_there = ap inc_in at

  -- the incarnations, where the one client has another
  pub inc_set : (d : ClientId) → put_at_client c q.client.inc (inc_of w) d ≡ inc_in (find (is_party d) (set_party q w.parties))
  inc_set d =
      let mine : id_of q ≡ c = own ∙ id_found c w p at in
      by_party (λ o. put_at_client c q.client.inc (inc_of w) d ≡ inc_in o) w q p d own_place
      (λ is. ap (λ t. if t then q.client.inc else inc_of w d) ((client_decides d c).1 (sym is ∙ mine)))
      (λ apart.
      by_test (λ t. (if t then q.client.inc else inc_of w d) ≡ inc_of w d) (same_client d c)
      (λ is. absurd (apart (mine ∙ sym ((client_decides d c).0 is))))
      (λ is. refl))

  pub inc_same : q.client.inc ≡ p.client.inc → (d : ClientId) → inc_of w d ≡ inc_in (find (is_party d) (set_party q w.parties))
  inc_same same d =
      by_test (λ t. inc_of w d ≡ (if t then q.client.inc else inc_of w d)) (same_client d c)
      (λ is. ap (inc_of w) ((client_decides d c).0 is) ∙ inc_there ∙ sym same)
      (λ is. refl)
      ∙ inc_set d

-- ---- a notice, and a restart

pub party_same : (w : World) (c : ClientId) (p q : Party) → party_of c w ≡ Some p → id_of q ≡ id_of p → q.client.inc ≡ p.client.inc
    → configuration_of w ≡ configuration_of (with_party w q)
party_same w c p q at own same =
    same_configuration (configuration_of w) (configuration_of (with_party w q)) (λ h. refl) (λ h. refl) refl (inc_same w c p q at own same)

pub notice_same : (w : World) (o : Ordered w) (i : ℕ) (m : Message) (p : Party) → sent_at i w ≡ Some m → party_of (client_of m) w ≡ Some p
    → configuration_of w ≡ configuration_of (with_party w (heard_party p (heard p.client m)))
notice_same w o i m p was at = let kept = keeps_hearing w o i m p was at in party_same w (client_of m) p (heard_party p (heard p.client m)) at kept.id kept.inc

pub restart_follows : (w : World) (o : Ordered w) (g : Objects) (c : ClientId) (p : Party) → party_of c w ≡ Some p
    → MovesLead g (configuration_of w) (Restart c ∷ []) (configuration_of (with_party w (restarted_party p)))
restart_follows w o g c p at =
    let q : Party = restarted_party p in
    let stored = (all_found (PartyFits w) (is_party c) w.parties p o.parties at).stored in (
      tt,
      same_configuration (restart c (configuration_of w)) (configuration_of (with_party w q)) (λ h. refl) (λ h. refl) refl
          (λ d. ap (λ n. put_at_client c (n + 1) (inc_of w) d) (inc_there w c p q at refl ∙ stored) ∙ inc_set w c p q at refl d),
    )

-- ---- a reserve, and a block given up

-- a block of the common list was reserved before, and keeps its handlers
pub same_set : (w : World) (o : Ordered w) (p : Party) (x : Command) (d : ClientState) (b : Block) → has_block w.joint b ≡ true
    → set_of b w ≡ set_of b (commanded_world w p x d)
same_set w o p x d b m =
    let all = o.joint b m in
    ap (λ (q : Option (List HandlerId)). unwrap_or q []) (all.set ∙ sym (handlers_after x (newest_block d) b w.logs all.handlers all.set))

pub reserve_same : (w : World) (o : Ordered w) (c : ClientId) (p : Party) (hs : List HandlerId) (d : ClientState) → party_of c w ≡ Some p
    → command p.client (Reserve hs) ≡ Ok d
    → configuration_of w ≡ configuration_of (commanded_world w p (Reserve hs) d)
reserve_same w o c p hs d at is =
    let fits = all_found (PartyFits w) (is_party c) w.parties p o.parties at in
    let g = goes_on w p (Reserve hs) d is fits in
    same_configuration (configuration_of w) (configuration_of then_world) (λ h. queues_same (queue_at w h) (queue_at then_world h) w.joint (same_queue h))
    (λ h. refl) refl
    (inc_same w c p (record p { client = d }) at g.id g.inc)
  where
    then_world : World
    then_world = commanded_world w p (Reserve hs) d

    same_queue : (h : HandlerId) (b : Block) → has_block w.joint b ≡ true → queue_at w h b ≡ queue_at then_world h b
    same_queue h b m =
        let log : log_of b h w ≡ log_of b h then_world = sym (reserved_same hs (newest_block d) b h w.logs) in
        λ i. if has (same_set w o p (Reserve hs) d b m i) h then queue_of b (record (seen b h w) { logged = log i }) else []

pub give_up_same : (w : World) (o : Ordered w) (c : ClientId) (p : Party) (d : ClientState) → party_of c w ≡ Some p → command p.client GiveUp ≡ Ok d
    → configuration_of w ≡ configuration_of (commanded_world w p GiveUp d)
give_up_same w o c p d at is =
    let g = goes_on w p GiveUp d is (all_found (PartyFits w) (is_party c) w.parties p o.parties at) in party_same w c p (record p { client = d }) at g.id g.inc
