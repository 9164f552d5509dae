-- A client that sends, hears or restarts keeps its windows at the end of the logs. A Log carries the first entries of a window, and
-- its number is the first after the acknowledged ones, so they stand in the log with these numbers. An acknowledgement takes
-- entries off a window's front alone. Hearing and restarting log nothing.
use Rattle.scoop_model.proofs.Names.{◌≡◌, ℕ, ◌+◌, List, [], ◌++◌, Some, refl, sym, ap, ◌∙◌, subst, append-nil, option_map, true, false, true≢false, ◌||◌, Bool}
use Rattle.scoop_model.proofs.Names.{nat_lt, nat_le, append_assoc, same_Some, AllByRecursion, handler_decides, EndOnlyLast, same_handler, Message, Log, Block}
use Rattle.scoop_model.proofs.Names.{HandlerId, Entry, by_test, StepRow, one_is_locked, all_are_locked, one_is_opened, all_are_opened, is_unlocked}
use Rattle.scoop_model.proofs.Names.{is_given_back, is_open, is_open_in, ReservationState, Step, due, heard, up_to, ClientState, with_windows, with_reservation}
use Rattle.scoop_model.proofs.Names.{WindowState, logged, acknowledged, window_of, at_window, first_entries, newest_block, with_sent, with_party, heard_party}
use Rattle.scoop_model.proofs.Names.{restarted_party, World, Party, log_of}
use Rattle.scoop_model.proofs.Stands.{Stands}
use Rattle.scoop_model.proofs.Order.{all_more_of, all_pushed, all_set_party}
use Rattle.scoop_model.proofs.Logging.Facts.{Carries, WindowFits, IsLastQuery, WaitsAt, WindowsFit, PartyLogs, Logging, Grown, stands_more}
use Rattle.scoop_model.proofs.Logging.Windows.{by_window, handlers_at, handlers_at_window, window_handler, window_own, window_other, fits_acknowledged}
use Rattle.scoop_model.proofs.Logging.Windows.{query_acknowledged, first_of_all}
use Rattle.scoop_model.proofs.Moves.{Sends, sends_log, sends, Notices, passes_over, is_greeted, steps_on, is_over, counts_on, gets_answer, hears}

-- ---- what goes on

module _ (v w : World) where
  pub carries_more : Grown v w → (m : Message) → Carries v m → Carries w m
  carries_more grown (Log h b n es) s = let x = grown b h in subst (λ log. Stands log n es) x.1 (stands_more (log_of b h v) x.0 n es s)
  carries_more grown m s = tt

  -- the log of this block stays
  abbrev pub SameLogs : Block → Type 0
  SameLogs b = (h : HandlerId) → log_of b h v ≡ log_of b h w

  pub windows_more : (c : ClientState) (r : ReservationState) → SameLogs r.block → WindowsFit v c r → WindowsFit w c r
  windows_more c r same f = record {
    block = f.block;
    handlers = f.handlers;
    windows = λ h l e. subst (λ log. WindowFits log l) (same h) (f.windows h l e);
    waits = λ h n e. (let g = f.waits h n e in record {
      window = g.window;
      found = g.found;
      query = subst (λ log. IsLastQuery log g.window n) (same h) g.query;
    });
    unlogged = λ e h. sym (same h) ∙ f.unlogged e h;
  }

  pub party_more : (p : Party) → ((r : ReservationState) → p.client.reservation ≡ Some r → SameLogs r.block) → PartyLogs v p → PartyLogs w p
  party_more p same f = record { block = λ r e. windows_more p.client r (same r e) (f.block r e) }

  -- nothing is logged
  pub logging_more : ((b : Block) → SameLogs b) → Logging v → AllByRecursion (Carries v) w.sent → AllByRecursion (PartyLogs v) w.parties → Logging w
  logging_more same i messages parties = record {
    messages = all_more_of (Carries v) (Carries w) (carries_more (λ b h. ([], append-nil (log_of b h v) ∙ same b h))) w.sent messages;
    logs = λ b h. subst EndOnlyLast (same b h) (i.logs b h);
    parties = all_more_of (PartyLogs v) (PartyLogs w) (λ p. party_more p (λ r e. same r.block)) w.parties parties;
  }

-- ---- what a client owes

window_stands : (log : List Entry) (l : WindowState) (batch : ℕ) → WindowFits log l → Stands log (l.acked + 1) (first_entries batch l.unacked)
window_stands log l batch f =
    let rest = first_of_all batch l.unacked in
    record {
      before = f.acknowledged;
      behind = rest.0;
      all = append_assoc f.acknowledged (first_entries batch l.unacked) rest.0 ∙ ap (λ xs. f.acknowledged ++ xs) rest.1 ∙ f.all;
      number = ap (λ n. n + 1) f.count;
    }

due_carries : (w : World) (p : Party) (h : HandlerId) → PartyLogs w p → (m : Message) → Sends p.client h m → Carries w m
due_carries w p h f m (sends_log r l held free opened window some) =
    let own = window_handler h p.client.windows l window in
    window_stands (log_of r.block l.handler w) l p.client.batch
    (subst (λ j. WindowFits (log_of r.block j w) l) (sym own) ((f.block r held).windows h l window))
due_carries w p h f m s = tt

pub sends_logging : (w : World) → Logging w → (p : Party) (h : HandlerId) → PartyLogs w p → Logging (with_sent w (due p.client h))
sends_logging w i p h f =
    logging_more w (with_sent w (due p.client h)) (λ b j. refl) i
    (all_pushed (Carries w) w.sent (due p.client h) i.messages (λ m e. due_carries w p h f m (sends p.client h m e))) i.parties

-- ---- a client hears

-- its windows and the query that waits stay, and so does the reservation but for its stage
pub record StaysLogged (c d : ClientState) (r s : ReservationState) : Type 0 where
  pub newest : newest_block d ≡ newest_block c
  pub windows : d.windows ≡ c.windows
  pub waits : d.waits ≡ c.waits
  pub block : s.block ≡ r.block
  pub handlers : s.handlers ≡ r.handlers
  pub opened : is_open s ≡ false → is_open r ≡ false

pub fit_again : (w : World) (c d : ClientState) (r s : ReservationState) → StaysLogged c d r s → WindowsFit w c r → WindowsFit w d s
fit_again w c d r s k f = record {
  block = k.block ∙ f.block ∙ sym k.newest;
  handlers = ap (λ ls. handlers_at ls) k.windows ∙ f.handlers ∙ sym k.handlers;
  windows = λ h l e. subst (λ b. WindowFits (log_of b h w) l) (sym k.block) (f.windows h l (ap (window_of h) (sym k.windows) ∙ e));
  waits = λ h n e. (
      let g = f.waits h n (sym k.waits ∙ e) in
      record {
        window = g.window;
        found = ap (window_of h) k.windows ∙ g.found;
        query = subst (λ b. IsLastQuery (log_of b h w) g.window n) (sym k.block) g.query;
      });
  unlogged = λ e h. ap (λ b. log_of b h w) k.block ∙ f.unlogged (k.opened e) h;
}

pub stays_logged : (c : ClientState) (r s : ReservationState) → s.block ≡ r.block → s.handlers ≡ r.handlers → (is_open s ≡ false → is_open r ≡ false)
    → StaysLogged c (with_reservation c s) r s
stays_logged c r s block handlers opened = record { newest = refl; windows = refl; waits = refl; block = block; handlers = handlers; opened = opened }

step_stays : (c : ClientState) (r : ReservationState) (m : Message) (s : ReservationState) (st : Step) → StepRow r m s st → StaysLogged c (with_reservation c s) r s
step_stays c r m s st (one_is_locked h at low rest) = stays_logged c r s refl refl (λ e. ap is_open_in at)
step_stays c r m s st (all_are_locked h at low all) = stays_logged c r s refl refl (λ e. ap is_open_in at)
step_stays c r m s st (one_is_opened h at is rest) = stays_logged c r s refl refl (λ e. ap is_open_in at)
step_stays c r m s st (all_are_opened h at is all) = stays_logged c r s refl refl (λ e. ap is_open_in at)
step_stays c r m s st (is_unlocked h at is) = stays_logged c r s refl refl (λ e. absurd (true≢false e))
step_stays c r m s st (is_given_back h at is) = stays_logged c r s refl refl (λ e. ap is_open_in at)
step_stays c r m s st row = stays_logged c r s refl refl (λ e. e)

-- every window beside its log, where the client has a block
abbrev AllFit : World → ClientState → Type 0
AllFit w c = (r : ReservationState) → c.reservation ≡ Some r → WindowsFit w c r

module _ (w : World) (c : ClientState) (fits : AllFit w c) where
  -- one window's entries are acknowledged
  acknowledged_windows : (r : ReservationState) (h : HandlerId) (k : ℕ) → c.reservation ≡ Some r → (j : HandlerId) (l : WindowState)
      → window_of j (at_window h (acknowledged k) c.windows) ≡ Some l → WindowFits (log_of r.block j w) l
  acknowledged_windows r h k held =
      let f = fits r held in
      by_window (λ j l. WindowFits (log_of r.block j w) l) h (acknowledged k) (λ l. refl) c.windows
      (λ l e. fits_acknowledged (log_of r.block h w) k l (f.windows h l e))
      (λ j l apart e. f.windows j l e)

  counted_waits : (r : ReservationState) (h : HandlerId) (n : ℕ) (l : WindowState) → c.reservation ≡ Some r → window_of h c.windows ≡ Some l
      → (nat_lt (logged l) n || nat_le (up_to h n c.waits) l.acked) ≡ false → (j : HandlerId) (q : ℕ) → c.waits ≡ Some (j, q)
      → WaitsAt w (with_windows c (at_window h (acknowledged (up_to h n c.waits)) c.windows) c.waits) r.block j q
  counted_waits r h n l held window fresh_count j q waits =
      let k = up_to h n c.waits in
      let g = (fits r held).waits j q waits in
      by_test (λ _. WaitsAt w (with_windows c (at_window h (acknowledged k) c.windows) c.waits) r.block j q) (same_handler h j)
      (λ is.
      let same : h ≡ j = (handler_decides h j).0 is in
      let there : window_of h c.windows ≡ Some g.window = ap (λ i. window_of i c.windows) same ∙ g.found in
      let one : l ≡ g.window = same_Some l g.window (sym window ∙ there) in
      let now : up_to h n c.waits ≡ up_to h n (Some (h, q)) = ap (up_to h n) waits ∙ ap (λ i. up_to h n (Some (i, q))) (sym same) in
      let new : nat_le (up_to h n (Some (h, q))) g.window.acked ≡ false =
      ap (λ a. nat_le a g.window.acked) (sym now) ∙ ap (λ (x : WindowState). nat_le k x.acked) (sym one)
      ∙ second (nat_lt (logged l) n) (nat_le k l.acked) fresh_count in
      record {
        window = acknowledged k g.window;
        found = ap (λ i. window_of i (at_window h (acknowledged k) c.windows)) (sym same) ∙ window_own h (acknowledged k) (λ x. refl) c.windows
            ∙ ap (option_map (acknowledged k)) there;
        query = subst (λ a. IsLastQuery (log_of r.block j w) (acknowledged a g.window) q) (sym now)
            (query_acknowledged (log_of r.block j w) h n q g.window new g.query);
      })
      (λ is. record {
        window = g.window;
        found = window_other h j (acknowledged k) (λ x. refl) c.windows (λ same. true≢false (sym ((handler_decides h j).1 same) ∙ is)) ∙ g.found;
        query = g.query;
      })
    where
      second : (s t : Bool) → (s || t) ≡ false → t ≡ false
      second true t e = absurd (true≢false e)
      second false t e = e

  hears_fits : (m : Message) (d : ClientState) → Notices c m d → AllFit w d
  hears_fits m d (passes_over n) = fits
  hears_fits m d (is_greeted h) =
      λ r e. fit_again w c d r r (record { newest = refl; windows = refl; waits = refl; block = refl; handlers = refl; opened = λ o. o }) (fits r e)
  hears_fits m d (steps_on n r s st held row) = λ q e. subst (WindowsFit w d) (same_Some s q e) (fit_again w c d r s (step_stays c r m s st row) (fits r held))
  hears_fits m d (is_over n) = λ r e. absurd (cc)
  hears_fits m d (counts_on h n r l held window fresh_count) =
      λ q own. (let f = fits q own in record {
        block = f.block;
        handlers = handlers_at_window h (acknowledged (up_to h n c.waits)) (λ x. refl) c.windows ∙ f.handlers;
        windows = acknowledged_windows q h (up_to h n c.waits) own;
        waits = counted_waits q h n l own window fresh_count;
        unlogged = f.unlogged;
      })
  hears_fits m d (gets_answer h n a r held waits) =
      λ q own. (let f = fits q own in record {
        block = f.block;
        handlers = handlers_at_window h (acknowledged n) (λ x. refl) c.windows ∙ f.handlers;
        windows = acknowledged_windows q h n own;
        waits = λ j i e. absurd (cc);
        unlogged = f.unlogged;
      })

-- a client goes on, and nothing is logged
party_moves : (w : World) (p : Party) → Logging w → PartyLogs w p → Logging (with_party w p)
party_moves w p i f =
    logging_more w (with_party w p) (λ b j. refl) i i.messages (all_set_party (PartyLogs w) (PartyLogs w) p w.parties f (λ y other g. g) i.parties)

pub notices_logging : (w : World) → Logging w → (m : Message) (p : Party) → PartyLogs w p → Logging (with_party w (heard_party p (heard p.client m)))
notices_logging w i m p f =
    party_moves w (heard_party p (heard p.client m)) i (record { block = hears_fits w p.client f.block m (heard p.client m).0 (hears p.client m) })

pub restarts_logging : (w : World) → Logging w → (p : Party) → Logging (with_party w (restarted_party p))
restarts_logging w i p = party_moves w (restarted_party p) i (record { block = λ r e. absurd (cc) })
