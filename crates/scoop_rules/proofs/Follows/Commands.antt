-- A client's command follows the rules: each entry that it logs is logged in the queues of the rules. The block has opened at all of
-- its handlers, so each has a queue for it. That queue is open, since no End is logged and its client has greeted in no newer
-- incarnation. No query of it waits. An End is one move at each handler, one after another.
use Rattle.scoop_rules.proofs.Names.{◌≡◌, ◌<◌, List, [], ◌∷◌, ◌++◌, map, Some, None, refl, sym, ap, ◌∙◌, subst, arith, append-nil, Ok, Option, find, true}
use Rattle.scoop_rules.proofs.Names.{if◌then◌else◌, ◌&&◌, false, true≢false, ◌||◌, length, ◌⊎◌, inl, inr, ⊎_elim, unwrap_or, length-append, flat_map}
use Rattle.scoop_rules.proofs.Names.{option_map_or, handler_decides, EndOnlyLast, same_block, same_handler, Block, ClientId, HandlerId, Entry, CallEntry}
use Rattle.scoop_rules.proofs.Names.{QueryEntry, EndEntry, all_found, by_test, has, ReservationState, ClientState, phase_of, WindowState, window_of, Command}
use Rattle.scoop_rules.proofs.Names.{id_found, newest_block, commanded_world, logs_after, World, Party, is_party, has_block, opened_at, log_of, party_of}
use Rattle.scoop_rules.proofs.Names.{handlers_of, HandlerLog, shares_of, is_succeeded, inc_of, is_share_of, set_of, has_end, PartyLogs, IsAdded, added}
use Rattle.scoop_rules.proofs.Names.{log_after, log_other, HasLine, log_in, log_here, named_shares, Takes, takes_reserve, takes_call, takes_query, takes_end}
use Rattle.scoop_rules.proofs.Names.{takes_give_up, takes, goes_on, PartyFits, same_block_itself, same_block_is, HandlerReady, same_handler_itself}
use Rattle.scoop_rules.proofs.Names.{configuration_of, queue_at, queue_of, seen, Seen, waits, MovesLead, LogOne, logged_to, has_open, objects_of, command_moves}
use Rattle.scoop_rules.proofs.Names.{false_from_ne_true}
use Rattle.scoop_model.proofs.Logging.Windows.{handlers_at}
use Rattle.scoop_model.proofs.Logging.Commands.{IsRunning, running_is, commands_logging}
use Rattle.scoop_model.proofs.Names.{Running}
use Rattle.scoop_rules.proofs.Lists.{same_configuration, queues_same, logged_over, logged_other, own_queue_at}
use Rattle.scoop_rules.proofs.Seen.{SlotOf, slot_seen, slot_at, none_before, no_end_left}
use Rattle.scoop_rules.proofs.Front.{left_has}
use Rattle.scoop_rules.proofs.Runs.{SlotReady, slots_ready}
use Rattle.scoop_rules.proofs.Follows.Facts.{AreDistinct, Following}
use Rattle.scoop_rules.proofs.Follows.Logging.{IsOpen, logged_at_all, one_at_all, logs_lead, open_among, open_queue, logged_queue}
use Rattle.scoop_rules.proofs.Follows.Clients.{same_set, inc_same, reserve_same, give_up_same}
use Rattle.scoop_client.specs.Commands as client

-- ---- shares of handlers

-- a handler of some shares has one of them
share_there :
    (h : HandlerId) (ls : List HandlerLog) → has (map (λ (y : HandlerLog). y.handler) ls) h ≡ true → (m : HandlerLog) × (find (is_share_of h) ls ≡ Some m)
share_there h [] e = absurd (true≢false (sym e))
share_there h (l ∷ ls) e =
    by_test (λ t. (t || has (map (λ (y : HandlerLog). y.handler) ls) h) ≡ true → (m : HandlerLog) × ((if t then Some l else find (is_share_of h) ls) ≡ Some m))
    (is_share_of h l)
    (λ here f. (l, refl))
    (λ there f. share_there h ls f) e

handler_there : (h : HandlerId) (ls : List WindowState) (l : WindowState) → window_of h ls ≡ Some l → has (handlers_at ls) h ≡ true
handler_there h [] l e = absurd (cc)
handler_there h (m ∷ ms) l e =
    by_test (λ t. (if t then Some m else window_of h ms) ≡ Some l → (t || has (handlers_at ms) h) ≡ true) (same_handler m.handler h)
    (λ here f. refl)
    (λ there f. handler_there h ms l f) e

-- ---- a client whose block runs, and that doesn't wait, logs

module _ (w : World) (f : Following w) (c : ClientId) (p : Party) (at : party_of c w ≡ Some p) (x : Command) (d : ClientState)
    (is : client.command p.client x ≡ Ok d) (run : IsRunning p.client) (free : p.client.waits ≡ None)
    (same : newest_block d ≡ newest_block p.client)
  where
    abbrev b : Block
    b = newest_block p.client

    abbrev after : World
    after = commanded_world w p x d

    abbrev r : ReservationState
    r = run.reservation

    fits : PartyFits w p
    fits = all_found (PartyFits w) (is_party c) w.parties p f.ordered.parties at

    logs : PartyLogs w p
    logs = all_found (PartyLogs w) (is_party c) w.parties p f.logging.parties at

    is_newest : r.block ≡ b
    is_newest = (logs.block r run.held).block

    named : handlers_of b w ≡ Some r.handlers
    named = subst (λ y. handlers_of y w ≡ Some r.handlers) is_newest (fits.reservation r run.held).named

    set_is : set_of b w ≡ r.handlers
    set_is = ap (λ (q : Option (List HandlerId)). unwrap_or q []) named

    its_inc : inc_of w b.client ≡ b.inc
    its_inc = ap (inc_of w) (id_found c w p at) ∙ ap (λ o. option_map_or (λ (y : Party). y.client.inc) o 0) at

    -- no newer incarnation of the client has greeted anywhere
    not_newer : (h : HandlerId) → is_succeeded b h w ≡ false
    not_newer h = false_from_ne_true (is_succeeded b h w) (λ e. past (f.ready.below b h e) its_inc)
      where
        past : b.inc < inc_of w b.client → inc_of w b.client ≡ b.inc → ⊥
        past lt e = omega (arith, lt, e)

    opened : (h : HandlerId) → has (set_of b w) h ≡ true → has_block (opened_at h w) b ≡ true
    opened h m =
        subst (λ y. has_block (opened_at h w) y ≡ true) is_newest ((f.clients c p at).opened r run.held run.opened h (subst (λ hs. has hs h ≡ true) set_is m))

    in_joint : (h : HandlerId) → has (set_of b w) h ≡ true → has_block w.joint b ≡ true
    in_joint h m = left_has (f.ready.handlers h).left b (opened h m)

    has_share : (h : HandlerId) → has (set_of b w) h ≡ true → HasLine b h w.logs
    has_share h m =
        let q = share_there h (shares_of b w.logs) (subst (λ hs. has hs h ≡ true) (set_is ∙ sym (named_shares b w.logs r.handlers named)) m) in
        record { share = q.0; found = q.1 }

    grows : (h : HandlerId) → has (set_of b w) h ≡ true → log_of b h after ≡ log_of b h w ++ added x h
    grows h m = ap (λ y. log_in b h (logs_after x y w.logs)) same ∙ log_here x b h w.logs (has_share h m)

    -- a log stays that the command doesn't reach
    log_stays : (y : Block) (h : HandlerId) → (b ≡ y → ⊥) ⊎ (added x h ≡ []) → log_of y h after ≡ log_of y h w
    log_stays y h why = ⊎_elim
        (λ (apart : b ≡ y → ⊥). log_other x (newest_block d) y h w.logs (λ e. apart (sym same ∙ e)))
        (λ (none : added x h ≡ []). ⊎_elim
        (λ (q : log_of y h after ≡ log_of y h w). q)
        (λ (q : IsAdded x (newest_block d) y h w.logs). q.grows ∙ ap (λ es. log_of y h w ++ es) none ∙ append-nil (log_of y h w))
        (log_after x (newest_block d) y h w.logs))
        why

    module _ (h : HandlerId) (m : has (set_of b w) h ≡ true) (e : Entry) (adds : added x h ≡ e ∷ []) where
      now_logged : log_of b h after ≡ log_of b h w ++ e ∷ []
      now_logged = grows h m ∙ ap (λ es. log_of b h w ++ es) adds

      no_end : has_end (log_of b h w) ≡ false
      no_end = none_before (log_of b h w) e [] (subst EndOnlyLast now_logged ((commands_logging w f.logging p x d fits logs is).logs b h))

      its_slot : SlotOf (SlotReady w h) b
      its_slot =
          let here : HandlerReady w h = f.ready.handlers h in
          slot_at (SlotReady w h) here.slots b (subst (λ bs. has_block bs b ≡ true) here.opened (opened h m)) (slots_ready w h f.ready)

      looks : seen b h w ≡ slot_seen its_slot.slot.ran its_slot.slot.rest its_slot.has.seen.more (is_succeeded its_slot.slot.block h w)
      looks = ap (λ y. seen y h w) (sym its_slot.block) ∙ its_slot.has.seen.is

      its_open : IsOpen (seen b h w)
      its_open =
          let t = its_slot.slot in
          let more = its_slot.has.seen.more in
          let count = ap (λ (s : Seen). s.count) looks in
          let log = ap (λ (s : Seen). s.logged) looks in
          let long = ap (λ (s : Seen). length s.logged) looks in
          let outer = length-append (t.ran ++ t.rest) more in
          let inner = length-append t.ran t.rest in
          record {
            newer = not_newer h;
            over = ap (λ (s : Seen). s.over) looks ∙ no_end_left t.ran t.rest (no_end_left (t.ran ++ t.rest) more (ap has_end (sym log) ∙ no_end));
            no_end = no_end;
            within = omega (arith, count, long, outer, inner);
          }

      queue_here : queue_at after h b ≡ map (logged_to b e) (queue_at w h b)
      queue_here =
          (λ i. if has (sym (same_set w f.ordered p x d b (in_joint h m)) i) h then queue_of b (record (seen b h w) { logged = now_logged i }) else [])
          ∙ ap (λ t. if t then queue_of b (record (seen b h w) { logged = log_of b h w ++ e ∷ [] }) else []) m
          ∙ logged_queue b (seen b h w) e its_open
          ∙ ap (map (logged_to b e)) (sym (ap (λ t. if t then queue_of b (seen b h w) else []) m))

      its_queue : has_open b (queue_at w h b) ≡ true
      its_queue =
          ap (has_open b) (ap (λ t. if t then queue_of b (seen b h w) else []) m ∙ open_queue b (seen b h w) its_open)
          ∙ ap (λ t. t && true || false) (same_block_itself b)

      takes_more : has_open b ((configuration_of w).queues h) ≡ true
      takes_more = open_among b (queue_at w h) w.joint (in_joint h m) its_queue

    -- a queue stays where its block's log does, or where its block doesn't name the handler
    queue_stays : (h : HandlerId) (y : Block) → has_block w.joint y ≡ true → (log_of y h after ≡ log_of y h w) ⊎ (has (set_of y w) h ≡ false)
        → queue_at after h y ≡ queue_at w h y
    queue_stays h y my why = ⊎_elim
        (λ (log : log_of y h after ≡ log_of y h w).
        λ i. if has (sym (same_set w f.ordered p x d y my) i) h then queue_of y (record (seen y h w) { logged = log i }) else [])
        (λ (off : has (set_of y w) h ≡ false).
        ap (λ t. if t then queue_of y (seen y h after) else []) (ap (λ hs. has hs h) (sym (same_set w f.ordered p x d y my)) ∙ off)
        ∙ sym (ap (λ t. if t then queue_of y (seen y h w) else []) off))
        why

    other_than : (y : Block) → same_block y b ≡ false → b ≡ y → ⊥
    other_than y other e = true≢false (sym (ap (λ z. same_block z b) (sym e) ∙ same_block_itself b) ∙ other)

    queues_logged : (h : HandlerId) → has (set_of b w) h ≡ true → (e : Entry) → added x h ≡ e ∷ []
        → map (logged_to b e) (flat_map (queue_at w h) w.joint) ≡ flat_map (queue_at after h) w.joint
    queues_logged h m e adds =
        logged_over b e (queue_at w h) w.joint
        ∙ queues_same (λ y. map (logged_to b e) (queue_at w h y)) (queue_at after h) w.joint
        (λ y my.
        by_test (λ _. map (logged_to b e) (queue_at w h y) ≡ queue_at after h y) (same_block y b)
        (λ own. subst (λ z. map (logged_to b e) (queue_at w h z) ≡ queue_at after h z) (sym (same_block_is y b own)) (sym (queue_here h m e adds)))
        (λ other.
        logged_other b y e (queue_at w h y) other (own_queue_at w h y) ∙ sym (queue_stays h y my (inl (log_stays y h (inl (other_than y other)))))))

    queues_stay : (h : HandlerId) → (has (set_of b w) h ≡ false) ⊎ (added x h ≡ []) → flat_map (queue_at w h) w.joint ≡ flat_map (queue_at after h) w.joint
    queues_stay h why =
        queues_same (queue_at w h) (queue_at after h) w.joint
        (λ y my.
        by_test (λ _. queue_at w h y ≡ queue_at after h y) (same_block y b)
        (λ own. sym (queue_stays h y my (⊎_elim
        (λ (off : has (set_of b w) h ≡ false). inr (subst (λ z. has (set_of z w) h ≡ false) (sym (same_block_is y b own)) off))
        (λ (none : added x h ≡ []). inl (log_stays y h (inr none)))
        why)))
        (λ other. sym (queue_stays h y my (inl (log_stays y h (inl (other_than y other)))))))

    -- the entry goes to these handlers, and to no others
    pub all_logged : (hs : List HandlerId) (e : Entry) → ((h : HandlerId) → has hs h ≡ true → (has (set_of b w) h ≡ true) × (added x h ≡ e ∷ []))
        → ((h : HandlerId) → has hs h ≡ false → (has (set_of b w) h ≡ false) ⊎ (added x h ≡ []))
        → logged_at_all b e hs (configuration_of w) ≡ configuration_of after
    all_logged hs e there off =
        same_configuration (logged_at_all b e hs (configuration_of w)) (configuration_of after)
        (λ h.
        by_test (λ t. (if t then map (logged_to b e) (flat_map (queue_at w h) w.joint) else flat_map (queue_at w h) w.joint)
        ≡ flat_map (queue_at after h) w.joint) (has hs h)
        (λ m. queues_logged h (there h m).0 e (there h m).1)
        (λ m. queues_stay h (off h m)))
        (λ h. refl) refl
        (let g = goes_on w p x d is fits in inc_same w c p (record p { client = d }) at g.id g.inc)

    none_waits : (h : HandlerId) → waits b ((configuration_of w).queues h) ≡ false
    none_waits h = subst (λ y. waits y ((configuration_of w).queues h) ≡ false) is_newest ((f.clients c p at).asked r run.held free h)

    pub one_leads : (k : HandlerId) (e : Entry) → has (set_of b w) k ≡ true → ((h : HandlerId) → added x h ≡ (if same_handler h k then e ∷ [] else []))
        → MovesLead (objects_of w) (configuration_of w) (LogOne b k e ∷ []) (configuration_of after)
    one_leads k e m adds = (
      (its_inc, takes_more k m e (here k (same_handler_itself k)), none_waits),
      one_at_all b e k (configuration_of w)
          ∙ all_logged (k ∷ []) e
          (λ h there.
          let mine : k ≡ h = one_of h there in
          subst (λ y. (has (set_of b w) y ≡ true) × (added x y ≡ e ∷ [])) mine (m, here k (same_handler_itself k)))
          (λ h off. inr (adds h ∙ ap (λ t. if t then e ∷ [] else []) (elsewhere h off))),
    )
      where
        here : (h : HandlerId) → same_handler h k ≡ true → added x h ≡ e ∷ []
        here h so = adds h ∙ ap (λ t. if t then e ∷ [] else []) so

        one_of : (h : HandlerId) → has (k ∷ []) h ≡ true → k ≡ h
        one_of h there =
            by_test (λ t. (t || false) ≡ true → k ≡ h) (same_handler k h)
            (λ so g. (handler_decides k h).0 so)
            (λ so g. absurd (true≢false (sym g))) there

        elsewhere : (h : HandlerId) → has (k ∷ []) h ≡ false → same_handler h k ≡ false
        elsewhere h off =
            false_from_ne_true (same_handler h k) (λ so. true≢false (sym (ap (λ y. has (k ∷ []) y) ((handler_decides h k).0 so) ∙ ap (λ t. t || false) (same_handler_itself k)) ∙ off))

    pub end_leads : ((h : HandlerId) → added x h ≡ EndEntry ∷ [])
        → MovesLead (objects_of w) (configuration_of w) (map (λ h. LogOne b h EndEntry) (set_of b w)) (configuration_of after)
    end_leads adds =
        subst (λ g. MovesLead (objects_of w) (configuration_of w) (map (λ h. LogOne b h EndEntry) (set_of b w)) g)
        (all_logged (set_of b w) EndEntry (λ h m. (m, adds h)) (λ h off. inl off))
        (logs_lead (objects_of w) b EndEntry refl (set_of b w) (subst AreDistinct (sym set_is) (f.sets b r.handlers named)) (configuration_of w) its_inc
        (λ h m. takes_more h m EndEntry (adds h)) none_waits)

-- ---- any command

module _ (w : World) (f : Following w) (c : ClientId) (p : Party) (at : party_of c w ≡ Some p) where
  -- one entry is logged at a handler of the block
  logs_one : (x : Command) (d : ClientState) (is : client.command p.client x ≡ Ok d) (k : HandlerId) (e : Entry) (l : WindowState) → phase_of p.client ≡ Running
      → p.client.waits ≡ None → window_of k p.client.windows ≡ Some l → newest_block d ≡ newest_block p.client
      → ((h : HandlerId) → added x h ≡ (if same_handler h k then e ∷ [] else []))
      → MovesLead (objects_of w) (configuration_of w) (LogOne (newest_block p.client) k e ∷ []) (configuration_of (commanded_world w p x d))
  logs_one x d is k e l running free window same adds =
      let run = running_is p.client running in
      let own = (all_found (PartyLogs w) (is_party c) w.parties p f.logging.parties at).block run.reservation run.held in
      let member : has run.reservation.handlers k ≡ true = subst (λ hs. has hs k ≡ true) own.handlers (handler_there k p.client.windows l window) in
      one_leads w f c p at x d is run free same k e (subst (λ hs. has hs k ≡ true) (sym (set_is w f c p at x d is run free same)) member) adds

  follows_by : (x : Command) (d : ClientState) → Takes p.client x d → client.command p.client x ≡ Ok d
      → MovesLead (objects_of w) (configuration_of w) (command_moves w (newest_block p.client) x) (configuration_of (commanded_world w p x d))
  follows_by x d (takes_reserve hs at_idle begins) is = reserve_same w f.ordered c p hs d at is
  follows_by x d (takes_call h r l running free window room) is = logs_one x d is h (CallEntry r) l running free window refl (λ j. refl)
  follows_by x d (takes_query h r l running free window room) is = logs_one x d is h (QueryEntry r) l running free window refl (λ j. refl)
  follows_by x d (takes_end running free) is = end_leads w f c p at x d is (running_is p.client running) free refl (λ h. refl)
  follows_by x d (takes_give_up r held at_lock) is = give_up_same w f.ordered c p d at is

  pub command_follows : (d : ClientState) (x : Command) → client.command p.client x ≡ Ok d
      → MovesLead (objects_of w) (configuration_of w) (command_moves w (newest_block p.client) x) (configuration_of (commanded_world w p x d))
  command_follows d x is = follows_by x d (takes p.client d x is) is
