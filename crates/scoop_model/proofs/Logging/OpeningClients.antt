-- A client's move keeps the invariant about openings. A block has at most one reservation, its client's, so that reservation's
-- stage shows which messages of the block were sent. No Open is sent while it locks or is given up, and an Unlock only after all
-- handlers have sent Opened. Each case of the client's table leaves the stage or goes on to the next one.
use Rattle.scoop_model.proofs.Names.{◌≡◌, List, [], ◌∷◌, Some, None, refl, sym, ap, ◌∙◌, subst, arith, append-nil, Ok, find, option_map, true, false}
use Rattle.scoop_model.proofs.Names.{true≢false, ◌||◌, Bool, ◌⊎◌, inl, inr, filter, same_Some, none-some, AllByRecursion, list_any, block_decides, same_block}
use Rattle.scoop_model.proofs.Names.{Message, Open, Block, ClientId, HandlerId, all_found, by_test, StepRow, one_is_locked, all_are_locked, one_is_opened}
use Rattle.scoop_model.proofs.Names.{all_are_opened, is_unlocked, is_given_back, asked, has, without, is_open_in, fresh, ReservationState, Stage, GivingBack}
use Rattle.scoop_model.proofs.Names.{Locking, Opening, Unlocking, Step, due, heard, ClientState, WindowState, Command, of_party, locking_giving, opening_giving}
use Rattle.scoop_model.proofs.Names.{some_same, by_party, id_found, newest_block, with_sent, logs_after, World, Party, BlockLog, set_party, is_party, log_of}
use Rattle.scoop_model.proofs.Names.{party_of, id_of, handlers_of, HandlerLog, shares_of, is_log_of, handlers_in}
use Rattle.scoop_model.proofs.Order.{IsNamed, PartyFits, Ordered, Tells, all_more_of, all_pushed, has_without, is_gone_one, none_in_empty, next_is_new}
use Rattle.scoop_model.proofs.Logging.Facts.{PartyLogs, Logging}
use Rattle.scoop_model.proofs.Logging.Windows.{found_has, window_handler}
use Rattle.scoop_model.proofs.Logging.Logs.{IsAdded, log_after, log_in, named_shares}
use Rattle.scoop_model.proofs.Logging.Commands.{IsRunning, running_is}
use Rattle.scoop_model.proofs.Logging.Openings.{IsOpenedAt, IsOpenedAtAll, IsGivenUp, NoOpen, Shows, SiteOpened, StageOpened, ReservationOpened, Onto, Openings}
use Rattle.scoop_model.proofs.Logging.Openings.{is_open_of, logs_more, none_pushed, reservation_more, shows_more, site_more}
use Rattle.scoop_model.proofs.Moves.{Sends, sends_open, sends_unlock, sends_back, sends_log, sends, Notices, steps_on, is_over, hears, Takes, takes_reserve}
use Rattle.scoop_model.proofs.Moves.{takes_call, takes_query, takes_end, takes_give_up, takes}
use Rattle.scoop_client.specs.Commands as client

-- ---- two reservations of one block are one

block_own :
    (w : World) → Logging w → (c : ClientId) (p : Party) → party_of c w ≡ Some p → (r : ReservationState) → p.client.reservation ≡ Some r → r.block.client ≡ c
block_own w l c p at r held =
    ap (λ (b : Block). b.client) ((all_found (PartyLogs w) (is_party c) w.parties p l.parties at).block r held).block ∙ id_found c w p at

one_owner : (w : World) → Logging w → (c d : ClientId) (p q : Party) → party_of c w ≡ Some p → party_of d w ≡ Some q
    → (r s : ReservationState) → p.client.reservation ≡ Some r → q.client.reservation ≡ Some s → s.block ≡ r.block → s ≡ r
one_owner w l c d p q at there r s held has same = grind (arith, block_own, some_same)

-- ---- what a client sends

-- no Open of this block is sent, where no reservation of it is opening
due_quiet : (b : Block) (p : Party) (h : HandlerId) → ((r : ReservationState) → p.client.reservation ≡ Some r → r.block ≡ b → r.stage ≡ Opening → ⊥)
    → (m : Message) → Sends p.client h m → is_open_of b m ≡ false
due_quiet b p h off m (sends_open r held at is) = grind (arith, block_decides)
due_quiet b p h off m s = refl

pub unlocking_is : (stage : Stage) → is_open_in stage ≡ true → stage ≡ Unlocking
unlocking_is Unlocking e = refl
unlocking_is stage e = absurd (true≢false (sym e))

module _ (w : World) (o : Ordered w) (l : Logging w) (i : Openings w) (c : ClientId) (p : Party) (at : party_of c w ≡ Some p) where
  fits : PartyFits w p
  fits = all_found (PartyFits w) (is_party c) w.parties p o.parties at

  logged_party : PartyLogs w p
  logged_party = all_found (PartyLogs w) (is_party c) w.parties p l.parties at

  named_there : (r : ReservationState) → p.client.reservation ≡ Some r → (h : HandlerId) → has r.handlers h ≡ true → IsNamed w h r.block
  named_there r held h e = record { handlers = r.handlers; set = (fits.reservation r held).named; member = e }

  pub opened_at_all : (r : ReservationState) → p.client.reservation ≡ Some r → r.stage ≡ Unlocking → IsOpenedAtAll w r.block
  opened_at_all r held is = record {
    handlers = r.handlers;
    set = (fits.reservation r held).named;
    opened = subst (StageOpened w r) is (i.parties c p at r held).stage;
  }

  given_back : (r : ReservationState) → p.client.reservation ≡ Some r → r.stage ≡ GivingBack → IsGivenUp w r.block
  given_back r held is = record {
    handlers = r.handlers;
    set = (fits.reservation r held).named;
    none = subst (StageOpened w r) is (i.parties c p at r held).stage;
    left = λ d q there s has same. subst (λ (y : ReservationState). y.stage ≡ GivingBack) (sym (one_owner w l c d p q at there r s held has same)) is;
  }

  due_shows : (h : HandlerId) (m : Message) → Sends p.client h m → Shows w m
  due_shows h m (sends_open r held is left) = named_there r held h ((i.parties c p at r held).within h left)
  due_shows h m (sends_unlock r held is left) = (named_there r held h ((i.parties c p at r held).within h left), inl (opened_at_all r held is))
  due_shows h m (sends_back r held is left) = (named_there r held h ((i.parties c p at r held).within h left), inr (given_back r held is))
  due_shows h m (sends_log r x held free opened window some) =
      let own = window_handler h p.client.windows x window in
      let member : has r.handlers x.handler ≡ true =
      ap (has r.handlers) own ∙ ap (λ hs. has hs h) (sym (logged_party.block r held).handlers)
      ∙ found_has (λ (y : WindowState). y.handler) h p.client.windows x window in
      (named_there r held x.handler member, opened_at_all r held (unlocking_is r.stage opened))
  due_shows h m s = tt

  module _ (h : HandlerId) where
    abbrev sent_on : World
    sent_on = with_sent w (due p.client h)

    -- no Open of a block that locks, or that was given up, is sent
    still_none : (b : Block) → ((r : ReservationState) → p.client.reservation ≡ Some r → r.block ≡ b → r.stage ≡ Opening → ⊥) → NoOpen w b → NoOpen sent_on b
    still_none b off none = none_pushed b w.sent (due p.client h) none (λ m e. due_quiet b p h off m (sends p.client h m e))

    pub sent_onto : Onto w sent_on
    sent_onto = record {
      sets = λ b hs e. e;
      opened = λ j b e. e;
      given_up = λ b g. record {
        handlers = g.handlers;
        set = g.set;
        none = still_none b (λ r held same is. opening_giving (sym is ∙ g.left c p at r held same)) g.none;
        left = g.left;
      };
    }

    -- the reservation of this block isn't opening, where none of its Opens was sent
    not_opening : (d : ClientId) (q : Party) → party_of d w ≡ Some q → (s : ReservationState) → q.client.reservation ≡ Some s → (Opening ≡ s.stage → ⊥)
        → (r : ReservationState) → p.client.reservation ≡ Some r → r.block ≡ s.block → r.stage ≡ Opening → ⊥
    not_opening d q there s has off r held same is =
        let one = one_owner w l d c q p there at s r has held same in off (sym is ∙ ap (λ (y : ReservationState). y.stage) one)

    stage_sent : (d : ClientId) (q : Party) → party_of d w ≡ Some q → (s : ReservationState) → q.client.reservation ≡ Some s → (stage : Stage) → s.stage ≡ stage
        → StageOpened w s stage → StageOpened sent_on s stage
    stage_sent d q there s has Locking is f = still_none s.block (not_opening d q there s has (λ e. cc)) f
    stage_sent d q there s has GivingBack is f = still_none s.block (not_opening d q there s has (λ e. opening_giving (e ∙ is))) f
    stage_sent d q there s has stage is f = f

    pub sends_openings : Openings sent_on
    sends_openings = record {
      messages = all_pushed (Shows sent_on) w.sent (due p.client h)
          (all_more_of (Shows w) (Shows sent_on) (shows_more w sent_on sent_onto) w.sent i.messages)
          (λ m e. shows_more w sent_on sent_onto m (due_shows h m (sends p.client h m e)));
      logs = logs_more w sent_on sent_onto (λ b j. inl refl) i.logs;
      sites = all_more_of (SiteOpened w) (SiteOpened sent_on) (site_more w sent_on sent_onto) w.sites i.sites;
      parties = λ d q there s has. (
          let f = i.parties d q there s has in
          record { within = f.within; stage = stage_sent d q there s has s.stage refl f.stage });
    }

-- ---- a client goes on

-- the origin of a client's reservation: it begins, stays, takes a step, or is given up
pub record IsFrom (w : World) (c : ClientState) (s : ReservationState) : Type 0 where
  pub opened : ReservationOpened w s
  pub given_up : (b : Block) → IsGivenUp w b → s.block ≡ b → ((r : ReservationState) → c.reservation ≡ Some r → r.block ≡ b → r.stage ≡ GivingBack)
      → s.stage ≡ GivingBack

module _ (w : World) (i : Openings w) (c : ClientId) (p q : Party) (at : party_of c w ≡ Some p) (same : id_of q ≡ id_of p) (ls : List BlockLog)
    (sets : (b : Block) (hs : List HandlerId) → handlers_of b w ≡ Some hs → option_map handlers_in (find (is_log_of b) ls) ≡ Some hs)
    (from : (s : ReservationState) → q.client.reservation ≡ Some s → IsFrom w p.client s)
    (grown : (b : Block) (h : HandlerId) → (log_in b h ls ≡ log_of b h w) ⊎ (IsNamed w h b × IsOpenedAtAll w b)) where
  -- one client goes on, and nothing is sent
  abbrev gone_on : World
  gone_on = record w { parties = set_party q w.parties; logs = ls }

  place : party_of (id_of q) w ≡ Some p
  place = subst (λ j. party_of j w ≡ Some p) (sym (id_found c w p at) ∙ sym same) at

  pub party_onto : Onto w gone_on
  party_onto = record {
    sets = sets;
    opened = λ h b e. e;
    given_up = λ b g. record {
      handlers = g.handlers;
      set = sets b g.handlers g.set;
      none = g.none;
      left = λ d y there s has of_block.
          by_party (λ o. o ≡ Some y → s.stage ≡ GivingBack) w q p d place
          (λ is e. (from s (of_party q y s e has)).given_up b g of_block (λ r held. g.left c p at r held))
          (λ apart e. g.left d y e s has of_block) there;
    };
  }

  pub party_goes_on : Openings gone_on
  party_goes_on = record {
    messages = all_more_of (Shows w) (Shows gone_on) (shows_more w gone_on party_onto) w.sent i.messages;
    logs = logs_more w gone_on party_onto grown i.logs;
    sites = all_more_of (SiteOpened w) (SiteOpened gone_on) (site_more w gone_on party_onto) w.sites i.sites;
    parties = λ d y there s has.
        by_party (λ o. o ≡ Some y → ReservationOpened gone_on s) w q p d place
        (λ is e. reservation_more w gone_on party_onto s (λ none. none) (from s (of_party q y s e has)).opened)
        (λ apart e. reservation_more w gone_on party_onto s (λ none. none) (i.parties d y e s has)) there;
  }

-- ---- a client hears

module _ (w : World) (c : ClientState) (fits : (r : ReservationState) → c.reservation ≡ Some r → ReservationOpened w r) where
  abbrev AllFrom : ClientState → Type 0
  AllFrom d = (s : ReservationState) → d.reservation ≡ Some s → IsFrom w c s

  stays : AllFrom c
  stays s held = record { opened = fits s held; given_up = λ b g same left. left s held same }

  -- a reservation that isn't given up isn't that of a block that was
  not_given : (r : ReservationState) (stage : Stage) → c.reservation ≡ Some r → r.stage ≡ stage → (stage ≡ GivingBack → ⊥)
      → (now : Stage) (b : Block) → r.block ≡ b → ((q : ReservationState) → c.reservation ≡ Some q → q.block ≡ b → q.stage ≡ GivingBack) → now ≡ GivingBack
  not_given r stage held at off now b same left = absurd (off (sym at ∙ left r held same))

  step_from : (m : Message) → Shows w m → (r : ReservationState) → c.reservation ≡ Some r → (s : ReservationState) (st : Step) → StepRow r m s st → IsFrom w c s
  step_from m shows r held s st (one_is_locked h at low rest) = grind (arith, has_without, not_given, locking_giving)
  step_from m shows r held s st (all_are_locked h at low all) = grind (arith, true≢false, not_given, locking_giving)
  step_from m shows r held s st (one_is_opened h at is rest) = grind (arith, has_without, is_gone_one, not_given, opening_giving)
  step_from m shows r held s st (all_are_opened h at is all) =
      let f = fits r held in
      let before : StageOpened w r Opening = subst (StageOpened w r) at f.stage in
      record {
        opened = record {
          within = λ x e. e;
          stage = λ x e.
              by_test (λ _. IsOpenedAt w x r.block) (has r.left x)
              (λ there. subst (λ j. IsOpenedAt w j r.block) (is_gone_one h x r.left there (none_in_empty (without h r.left) x all)) shows)
              (λ gone. before x e gone);
        };
        given_up = λ b g same left. not_given r Opening held at opening_giving Unlocking b same left;
      }
  step_from m shows r held s st (is_unlocked h at is) = grind (arith, has_without, not_given)
  step_from m shows r held s st (is_given_back h at is) = grind (arith, has_without)
  step_from m shows r held s st row = stays r held

  hears_from : (m : Message) (d : ClientState) → Notices c m d → Shows w m → AllFrom d
  hears_from m d (steps_on n r s st held row) shows = λ q e. subst (IsFrom w c) (same_Some s q e) (step_from m shows r held s st row)
  hears_from m d (is_over n) shows = λ s e. absurd (cc)
  hears_from m d n shows = stays

  pub heard_from : (m : Message) → Shows w m → AllFrom (heard c m).0
  heard_from m shows = hears_from m (heard c m).0 (hears c m) shows

-- ---- a command

-- no Open was sent of a block without handlers
none_before : (w : World) (b : Block) → handlers_of b w ≡ None → (ms : List Message) → AllByRecursion (Tells w) ms → list_any (is_open_of b) ms ≡ false
none_before w b none [] all = refl
none_before w b none (m ∷ ms) all = ap (λ t. t || list_any (is_open_of b) ms) (no_open m all.0) ∙ none_before w b none ms all.1
  where
    no_open : (m : Message) → Tells w m → is_open_of b m ≡ false
    no_open (Open h y) t =
        by_test (λ u. u ≡ false) (same_block y b)
        (λ e.
        let there : handlers_of b w ≡ Some t.handlers = ap (λ z. handlers_of z w) (sym ((block_decides y b).0 e)) ∙ t.set in
        absurd (cc))
        (λ e. refl)
    no_open x t = refl

pub has_filtered : (test : HandlerId → Bool) (hs : List HandlerId) (x : HandlerId) → has (filter test hs) x ≡ true → has hs x ≡ true
has_filtered test [] x e = e
has_filtered test (y ∷ ys) x e = grind (arith, has_filtered test ys x)

module _ (w : World) (o : Ordered w) (p : Party) (f : PartyFits w p) (l : PartyLogs w p)
    (opened : (r : ReservationState) → p.client.reservation ≡ Some r → ReservationOpened w r) where
  next_new : handlers_of (client.next_block p.client) w ≡ None
  next_new = next_is_new w p f (handlers_of (client.next_block p.client) w) refl

  fresh_from : (hs : List HandlerId) → IsFrom w p.client (fresh (client.next_block p.client) hs)
  fresh_from hs = record {
    opened = record { within = λ h e. e; stage = none_before w (client.next_block p.client) next_new w.sent o.messages };
    given_up = λ b g same left. (let there : handlers_of (client.next_block p.client) w ≡ Some g.handlers = ap (λ y. handlers_of y w) same ∙ g.set in
        absurd (none-some _ (sym next_new ∙ there)));
  }

  from_by : (x : Command) (d : ClientState) → Takes p.client x d → (s : ReservationState) → d.reservation ≡ Some s → IsFrom w p.client s
  from_by x d (takes_reserve hs at_idle begins) s held = subst (IsFrom w p.client) (same_Some (fresh (client.next_block p.client) hs) s held) (fresh_from hs)
  from_by x d (takes_give_up r own at) s held = grind (arith, same_Some, asked, has_filtered)
  from_by x d t s held = record { opened = opened s held; given_up = λ b g same left. left s held same }

  -- the client runs, and its block is its newest
  logs_running : (x : Command) → IsRunning p.client → (b : Block) (h : HandlerId) → IsAdded x (newest_block p.client) b h w.logs → IsNamed w h b × IsOpenedAtAll w b
  logs_running x run b h more =
      let r = run.reservation in
      let same : r.block ≡ b = (l.block r run.held).block ∙ more.block in
      let named = (f.reservation r run.held).named in
      let at_all : IsOpenedAtAll w r.block =
      record { handlers = r.handlers; set = named; opened = subst (StageOpened w r) (unlocking_is r.stage run.opened) (opened r run.held).stage } in
      let set : handlers_of b w ≡ Some r.handlers = ap (λ y. handlers_of y w) (sym same) ∙ named in
      let member : has r.handlers h ≡ true =
      ap (λ hs. has hs h) (sym (named_shares b w.logs r.handlers set))
      ∙ found_has (λ (y : HandlerLog). y.handler) h (shares_of b w.logs) more.share.share more.share.found in
      (record { handlers = r.handlers; set = set; member = member }, subst (IsOpenedAtAll w) same at_all)

  -- nothing is logged, or entries of a block that has opened
  added_opened : (x : Command) (d : ClientState) → Takes p.client x d → (b : Block) (h : HandlerId) → IsAdded x (newest_block d) b h w.logs
      → (log_in b h (logs_after x (newest_block d) w.logs) ≡ log_of b h w) ⊎ (IsNamed w h b × IsOpenedAtAll w b)
  added_opened x d (takes_call k r y running free window room) b h more = inr (logs_running x (running_is p.client running) b h more)
  added_opened x d (takes_query k r y running free window room) b h more = inr (logs_running x (running_is p.client running) b h more)
  added_opened x d (takes_end running free) b h more = inr (logs_running x (running_is p.client running) b h more)
  added_opened x d row b h more = inl (more.grows ∙ append-nil (log_of b h w))

  module _ (d : ClientState) (x : Command) (is : client.command p.client x ≡ Ok d) where
    pub command_from : (s : ReservationState) → d.reservation ≡ Some s → IsFrom w p.client s
    command_from = from_by x d (takes p.client d x is)

    pub grown_opened : (b : Block) (h : HandlerId) → (log_in b h (logs_after x (newest_block d) w.logs) ≡ log_of b h w) ⊎ (IsNamed w h b × IsOpenedAtAll w b)
    grown_opened b h = grind (arith, added_opened, takes, log_after)
