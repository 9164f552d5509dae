-- A command keeps its client's windows at the end of the logs. The log and the client's own window at a handler grow by the same
-- entry, so that the window stays the log's end. Other blocks' logs stay. Nothing is logged before the block has opened at all of
-- its handlers. The proof goes command by command.
use Rattle.scoop_model.proofs.Names.{◌≡◌, ℕ, ◌+◌, List, [], ◌∷◌, ◌++◌, map, Some, None, refl, sym, ap, ◌∙◌, subst, arith, append-nil, Ok, option_map, true}
use Rattle.scoop_model.proofs.Names.{if◌then◌else◌, false, true≢false, Bool, ◌-◌, ◌^◌, ⊎_elim, nat_le, same_Some, handler_decides, client_decides, EndOnlyLast}
use Rattle.scoop_model.proofs.Names.{ends, is_end, same_handler, Block, HandlerId, Entry, CallEntry, QueryEntry, EndOnlyLast-append, asked, is_open, is_open_in}
use Rattle.scoop_model.proofs.Names.{fresh, ReservationState, at_stage, Stage, GivingBack as AtGivingUp, Locking as AtLocking, Unlocking as AtUnlocking}
use Rattle.scoop_model.proofs.Names.{ClientState, with_windows, with_reservation, phase_of, phase_at, WindowState, logged, window_of, at_window}
use Rattle.scoop_model.proofs.Names.{with_entry as with_window_entry, with_end, fresh_window, is_ended, Command, Reserve, End, GiveUp, Running, newest_block}
use Rattle.scoop_model.proofs.Names.{commanded_world, logs_after, World, Party, is_party, log_of, id_of, HandlerLog, shares_of}
use Rattle.scoop_model.proofs.Order.{PartyFits, all_more_of, all_set_party, next_is_new}
use Rattle.scoop_model.proofs.Logging.Facts.{Carries, WindowFits, IsLastQuery, WaitsAt, WindowsFit, PartyLogs, Logging, Grown}
use Rattle.scoop_model.proofs.Logging.Logs.{HasLine, IsAdded, added, added_last, log_after, log_here, log_other, named_shares, reserved_same, unreserved_empty}
use Rattle.scoop_model.proofs.Logging.Windows.{by_all, by_window, fits_ended, fits_fresh, fits_logged, fresh_found, handlers_at, handlers_at_window}
use Rattle.scoop_model.proofs.Logging.Windows.{handlers_fresh_windows, handlers_in_all, window_own, not_ended, query_logged, same_found}
use Rattle.scoop_model.proofs.Logging.Clients.{carries_more, fit_again, windows_more, party_more, stays_logged}
use Rattle.scoop_model.proofs.Moves.{Takes, takes_reserve, takes_call, takes_query, takes_end, takes_give_up, takes}
use Rattle.scoop_client.specs.Commands as client

-- ---- a command, once it is known what it does to the client's own windows

-- any log grows by what the command logs
pub commanded_grown : (w : World) (p : Party) (x : Command) (d : ClientState) → Grown w (commanded_world w p x d)
commanded_grown w p x d b h =
    ⊎_elim
    (λ (same : log_of b h (commanded_world w p x d) ≡ log_of b h w). ([], append-nil (log_of b h w) ∙ sym same))
    (λ (more : IsAdded x (newest_block d) b h w.logs). (added x h, sym more.grows))
    (log_after x (newest_block d) b h w.logs)

record Logs (w : World) (p : Party) (x : Command) (d : ClientState) : Type 0 where
  pub id : d.id ≡ p.client.id
  pub going : (b : Block) (h : HandlerId) → IsAdded x (newest_block d) b h w.logs → ends (log_of b h w) ≡ false
  pub windows : (r : ReservationState) → d.reservation ≡ Some r → WindowsFit (commanded_world w p x d) d r

module _ (w : World) (p : Party) (x : Command) (d : ClientState) (i : Logging w) (l : Logs w p x d) where
  abbrev now : World
  now = commanded_world w p x d

  last_again : (b : Block) (h : HandlerId) → EndOnlyLast (log_of b h now)
  last_again b h = grind (arith, EndOnlyLast-append, added_last, log_after)

  -- the block of another client isn't this one's
  other_stays : (y : Party) → is_party (id_of (record p { client = d })) y ≡ false → PartyLogs w y → PartyLogs now y
  other_stays y other f = party_more w now y
      (λ r held h. sym (log_other x (newest_block d) r.block h w.logs (λ same.
      let mine : d.id ≡ id_of y = ap (λ (z : Block). z.client) (same ∙ (f.block r held).block) in
      true≢false (sym ((client_decides (id_of y) d.id).1 (sym mine)) ∙ other)))) f

  commanded_logging : Logging now
  commanded_logging = record {
    messages = all_more_of (Carries w) (Carries now) (carries_more w now (commanded_grown w p x d)) w.sent i.messages;
    logs = last_again;
    parties = all_set_party (PartyLogs w) (PartyLogs now) (record p { client = d }) w.parties (record { block = l.windows }) other_stays i.parties;
  }

-- ---- the phase

-- a client that logs has a block that is opened at all of its handlers, and has not ended it
pub record IsRunning (c : ClientState) : Type 0 where
  pub reservation : ReservationState
  pub held : c.reservation ≡ Some reservation
  pub opened : is_open reservation ≡ true
  pub going : is_ended c.windows ≡ false

running_at : (ended : Bool) (s : Stage) → phase_at s ended ≡ Running → (is_open_in s ≡ true) × (ended ≡ false)
running_at ended AtUnlocking e = grind arith
running_at ended stage e = absurd (cc)

pub running_is : (c : ClientState) → phase_of c ≡ Running → IsRunning c
running_is c e = grind (arith, running_at)

-- ---- a client logs

module _ (w : World) (p : Party) (fits : PartyFits w p) (f : PartyLogs w p) where
  abbrev c : ClientState
  c = p.client

  windows_named : (r : ReservationState) → c.reservation ≡ Some r → handlers_at c.windows ≡ map (λ (y : HandlerLog). y.handler) (shares_of r.block w.logs)
  windows_named r held = (f.block r held).handlers ∙ sym (named_shares r.block w.logs r.handlers (fits.reservation r held).named)

  -- the handler of a window has a log
  has_share : (r : ReservationState) → c.reservation ≡ Some r → (h : HandlerId) (l : WindowState) → window_of h c.windows ≡ Some l → HasLine r.block h w.logs
  has_share r held h l found =
      let x = same_found (λ (y : WindowState). y.handler) (λ (y : HandlerLog). y.handler) h c.windows (shares_of r.block w.logs) l
      (windows_named r held) found in
      record { share = x.0; found = x.1 }

  -- no log of a running block has ended
  going_on : (run : IsRunning c) (h : HandlerId) → HasLine run.reservation.block h w.logs → ends (log_of run.reservation.block h w) ≡ false
  going_on run h has =
      let r = run.reservation in
      let x =
      same_found (λ (y : HandlerLog). y.handler)
      (λ (y : WindowState). y.handler) h (shares_of r.block w.logs) c.windows has.share (sym (windows_named r run.held)) has.found in
      sym ((f.block r run.held).windows h x.0 x.1).ended ∙ not_ended h c.windows x.0 run.going x.1

  going_now : (run : IsRunning c) (x : Command) (b : Block) (h : HandlerId) → IsAdded x (newest_block c) b h w.logs → ends (log_of b h w) ≡ false
  going_now run x b h more = grind (arith, ends, going_on)

  is_the_one : (run : IsRunning c) (r : ReservationState) → c.reservation ≡ Some r → run.reservation ≡ r
  is_the_one run r held = let both : Some run.reservation ≡ Some r = sym run.held ∙ held in cc

  -- the log of a running block's handler has the command's entries after its own
  log_grows :
      (x : Command) (r : ReservationState) → c.reservation ≡ Some r → (h : HandlerId) (l : WindowState) → window_of h c.windows ≡ Some l → (d : ClientState)
      → newest_block d ≡ newest_block c
      → log_of r.block h w ++ added x h ≡ log_of r.block h (commanded_world w p x d)
  log_grows x r held h l found d same =
      let block : r.block ≡ newest_block d = (f.block r held).block ∙ sym same in
      sym (log_here x r.block h w.logs (has_share r held h l found)) ∙ ap (λ b. log_of r.block h (record w { logs = logs_after x b w.logs })) block

-- ---- a call or a query

module _ (w : World) (p : Party) (x : Command) (k : HandlerId) (e : Entry) (adds : (h : HandlerId) → added x h ≡ (if same_handler h k then e ∷ [] else []))
    (no_end : is_end e ≡ false) (fits : PartyFits w p) (f : PartyLogs w p) (l : WindowState) (run : IsRunning p.client)
    (window : window_of k p.client.windows ≡ Some l) (more : nat_le (2 ^ 32 - 2) (logged l) ≡ false) where
  abbrev later : ClientState
  later = with_windows p.client (at_window k (with_window_entry e) p.client.windows) (client.waits_for k (logged l + 1) e)

  abbrev after : World
  after = commanded_world w p x later

  adds_here : added x k ≡ e ∷ []
  adds_here = adds k ∙ ap (λ t. if t then e ∷ [] else []) ((handler_decides k k).1 refl)

  adds_elsewhere : (h : HandlerId) → (k ≡ h → ⊥) → added x h ≡ []
  adds_elsewhere h apart = grind (arith, handler_decides)

  own_log : (r : ReservationState) → p.client.reservation ≡ Some r → log_of r.block k w ++ e ∷ [] ≡ log_of r.block k after
  own_log r held = ap (λ es. log_of r.block k w ++ es) (sym adds_here) ∙ log_grows w p fits f x r held k l window later refl

  windows_logged : (r : ReservationState) → p.client.reservation ≡ Some r → (h : HandlerId) (m : WindowState) → window_of h later.windows ≡ Some m
      → WindowFits (log_of r.block h after) m
  windows_logged r held =
      let own = f.block r held in
      by_window (λ h m. WindowFits (log_of r.block h after) m) k (with_window_entry e) (λ m. refl) p.client.windows
      (λ m there.
      let same : l ≡ m = same_Some l m (sym window ∙ there) in
      subst (λ log. WindowFits log (with_window_entry e m)) (own_log r held)
      (fits_logged (log_of r.block k w) m e (own.windows k m there) (not_ended k p.client.windows m run.going there) no_end
      (subst (λ (y : WindowState). nat_le (2 ^ 32 - 2) (logged y) ≡ false) same more)))
      (λ h m apart there.
      subst (λ log. WindowFits log m) (sym (append-nil (log_of r.block h w)) ∙ ap (λ es. log_of r.block h w ++ es) (sym (adds_elsewhere h apart))
      ∙ log_grows w p fits f x r held h m there later refl) (own.windows h m there))

  waits_logged : (r : ReservationState) → p.client.reservation ≡ Some r → (n : Entry) → e ≡ n → (h : HandlerId) (q : ℕ)
      → client.waits_for k (logged l + 1) n ≡ Some (h, q) → WaitsAt after later r.block h q
  waits_logged r held (QueryEntry s) is h q waits =
      let pair : (k, logged l + 1) ≡ (h, q) = cc in
      let here : k ≡ h = ap (λ (y : HandlerId × ℕ). y.0) pair in
      let number : logged l + 1 ≡ q = ap (λ (y : HandlerId × ℕ). y.1) pair in
      subst (λ j. WaitsAt after later r.block j q) here
      (subst (λ a. WaitsAt after later r.block k a) number
      (record {
        window = with_window_entry e l;
        found = window_own k (with_window_entry e) (λ m. refl) p.client.windows ∙ ap (option_map (with_window_entry e)) window;
        query = subst (λ log. IsLastQuery log (with_window_entry e l) (logged l + 1)) (own_log r held)
            (subst (λ y. IsLastQuery (log_of r.block k w ++ y ∷ []) (with_window_entry y l) (logged l + 1)) (sym is) (query_logged (log_of r.block k w) l s));
      }))
  waits_logged r held n is h q waits = absurd (cc)

  entry_logs : Logs w p x later
  entry_logs = record {
    id = refl;
    going = going_now w p fits f run x;
    windows = λ r held. (let own = f.block r held in record {
      block = own.block;
      handlers = handlers_at_window k (with_window_entry e) (λ m. refl) p.client.windows ∙ own.handlers;
      windows = windows_logged r held;
      waits = waits_logged r held e refl;
      unlogged = λ shut h. absurd (true≢false (sym run.opened ∙ ap is_open (is_the_one w p fits f run r held) ∙ shut));
    });
  }

-- ---- an End

module _ (w : World) (p : Party) (fits : PartyFits w p) (f : PartyLogs w p) (run : IsRunning p.client) where
  abbrev ended : ClientState
  ended = with_windows p.client (map with_end p.client.windows) None

  abbrev over : World
  over = commanded_world w p End ended

  end_logs : Logs w p End ended
  end_logs = record {
    id = refl;
    going = going_now w p fits f run End;
    windows = λ r held. (let own = f.block r held in record {
      block = own.block;
      handlers = handlers_in_all with_end (λ m. refl) p.client.windows ∙ own.handlers;
      windows = by_all (λ h m. WindowFits (log_of r.block h over) m) with_end (λ m. refl) p.client.windows
          (λ h m there.
          subst (λ log. WindowFits log (with_end m)) (log_grows w p fits f End r held h m there ended refl)
          (fits_ended (log_of r.block h w) m (own.windows h m there) (not_ended h p.client.windows m run.going there)));
      waits = λ h q waits. absurd (cc);
      unlogged = λ shut h. absurd (true≢false (sym run.opened ∙ ap is_open (is_the_one w p fits f run r held) ∙ shut));
    });
  }

-- ---- a block begins, or is given up

module _ (w : World) (p : Party) (hs : List HandlerId) (r : ReservationState) (fits : PartyFits w p) (begins : fresh (client.next_block p.client) hs ≡ r) where
  abbrev begun : ClientState
  begun = client.with_block p.client hs r

  abbrev first : World
  first = commanded_world w p (Reserve hs) begun

  no_log : (h : HandlerId) → log_of (client.next_block p.client) h first ≡ []
  no_log h = grind (arith, next_is_new, reserved_same, unreserved_empty)

  fresh_fits : WindowsFit first begun (fresh (client.next_block p.client) hs)
  fresh_fits = record {
    block = refl;
    handlers = handlers_fresh_windows hs;
    windows = λ h l found. subst (λ m. WindowFits (log_of (client.next_block p.client) h first) m) (fresh_found hs h l found)
        (subst (λ log. WindowFits log (fresh_window h)) (sym (no_log h)) (fits_fresh h));
    waits = λ h q waits. absurd (cc);
    unlogged = λ shut. no_log;
  }

  reserve_logs : Logs w p (Reserve hs) begun
  reserve_logs = grind (arith, ends, same_Some, fresh_fits, unreserved_empty, next_is_new)

give_up_logs : (w : World) (p : Party) (r : ReservationState) → PartyLogs w p → p.client.reservation ≡ Some r → r.stage ≡ AtLocking
    → Logs w p GiveUp (with_reservation p.client (at_stage r AtGivingUp (asked r.handlers r.left)))
give_up_logs w p r f held at =
    let s : ReservationState = at_stage r AtGivingUp (asked r.handlers r.left) in
    let d : ClientState = with_reservation p.client s in
    record {
      id = refl;
      going = λ b h more. (
          let same : r.block ≡ b = (f.block r held).block ∙ more.block in
          subst (λ y. ends (log_of y h w) ≡ false) same (ap ends ((f.block r held).unlogged (ap is_open_in at) h)));
      windows = λ q is.
          subst (WindowsFit (commanded_world w p GiveUp d) d) (same_Some s q is)
          (windows_more w (commanded_world w p GiveUp d) d s (λ h. refl)
          (fit_again w p.client d r s (stays_logged p.client r s refl refl (λ _. ap is_open_in at)) (f.block r held)));
    }

-- ---- any command

logs_by : (w : World) (p : Party) (x : Command) (d : ClientState) → PartyFits w p → PartyLogs w p → Takes p.client x d → Logs w p x d
logs_by w p x d fits f (takes_reserve hs at_idle begins) = reserve_logs w p hs (fresh (client.next_block p.client) hs) fits refl
logs_by w p x d fits f (takes_call h r l running free window more) =
    entry_logs w p x h (CallEntry r) (λ j. refl) refl fits f l (running_is p.client running) window more
logs_by w p x d fits f (takes_query h r l running free window more) =
    entry_logs w p x h (QueryEntry r) (λ j. refl) refl fits f l (running_is p.client running) window more
logs_by w p x d fits f (takes_end running free) = end_logs w p fits f (running_is p.client running)
logs_by w p x d fits f (takes_give_up r held at) = give_up_logs w p r f held at

pub commands_logging : (w : World) → Logging w → (p : Party) (x : Command) (d : ClientState) → PartyFits w p → PartyLogs w p → client.command p.client x ≡ Ok d
    → Logging (commanded_world w p x d)
commands_logging w i p x d fits f e = commanded_logging w p x d i (logs_by w p x d fits f (takes p.client d x e))
