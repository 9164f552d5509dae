-- A client only goes on: to a later block, or in the same one with no fewer entries acknowledged.
use Rattle.scoop_model.proofs.Names.{◌≡◌, ℕ, List, Some, None, refl, sym, ◌∙◌, arith, Ok, ◌≤◌, Option, Message, HandlerId, Entry, asked, ReservationState}
use Rattle.scoop_model.proofs.Names.{at_stage, GivingBack, HeardRow, ClientState, with_windows, with_reservation, WindowState, acknowledged, at_window}
use Rattle.scoop_model.proofs.Names.{with_entry, with_end, Command, ClientNote, Accepted, map, ap, subst, option_map, option_map_or, handler_decides, logged}
use Rattle.scoop_model.proofs.Names.{window_of}
use Rattle.scoop_model.proofs.Order.{Upto, upto_more}
use Rattle.scoop_model.proofs.Answering.Facts.{acked_at, IsBehind}
use Rattle.scoop_model.proofs.Moves.{Notices, passes_over, is_greeted, steps_on, is_over, counts_on, gets_answer, notices, Takes, takes_reserve, takes_call}
use Rattle.scoop_model.proofs.Moves.{takes_query, takes_end, takes_give_up, takes}
use Rattle.scoop_client.specs.Commands as client
use Rattle.scoop_model.proofs.Logging.{StaysAt, window_in_all, window_own, window_other}

-- ---- how many entries are acknowledged at a handler, once windows have changed

-- a change of a window that leaves its handler, and takes no acknowledgement back
pub record Raises (f : WindowState → WindowState) : Type 0 where
  pub handler : StaysAt f
  pub acked : (l : WindowState) → l.acked ≤ (f l).acked

abbrev acked_in : Option WindowState → ℕ
acked_in o = option_map_or (λ (l : WindowState). l.acked) o 0

module _ (f : WindowState → WindowState) (raises : Raises f) where
  raised : (o : Option WindowState) → acked_in o ≤ acked_in (option_map f o)
  raised None = omega arith
  raised (Some l) = raises.acked l

  pub acked_all : (x : HandlerId) (ls : List WindowState) → acked_at x ls ≤ acked_at x (map f ls)
  acked_all x ls = subst (λ o. acked_at x ls ≤ acked_in o) (sym (window_in_all x f raises.handler ls)) (raised (window_of x ls))

  own_raised : (h : HandlerId) (ls : List WindowState) → acked_at h ls ≤ acked_at h (at_window h f ls)
  own_raised h ls = subst (λ o. acked_at h ls ≤ acked_in o) (sym (window_own h f raises.handler ls)) (raised (window_of h ls))

  pub acked_at_window : (h x : HandlerId) (ls : List WindowState) → acked_at x ls ≤ acked_at x (at_window h f ls)
  acked_at_window h x ls = grind (arith, handler_decides, own_raised, window_other)

  -- at the handler whose window changes
  pub acked_there : (h : HandlerId) (ls : List WindowState) (l : WindowState) → window_of h ls ≡ Some l → acked_at h (at_window h f ls) ≡ (f l).acked
  acked_there h ls l found = ap acked_in (window_own h f raises.handler ls) ∙ ap (λ o. acked_in (option_map f o)) found

pub acknowledged_raises : (n : ℕ) → Raises (acknowledged n)
acknowledged_raises n = record { handler = λ l. refl; acked = λ l. omega arith }

-- all entries of the window are acknowledged
pub acknowledged_all : (n : ℕ) (l : WindowState) → n ≡ logged l → (acknowledged n l).acked ≡ n
acknowledged_all n l all = omega (arith, all)

-- ---- the client goes on

-- the block that the client had goes on
pub record GoesOnIn (c d : ClientState) : Type 0 where
  pub reservation : ReservationState
  pub held : c.reservation ≡ Some reservation
  pub acked : (h : HandlerId) → acked_at h c.windows ≤ acked_at h d.windows

pub record Onward (c d : ClientState) : Type 0 where
  pub id : d.id ≡ c.id
  pub upto : Upto c.inc c.last d.inc d.last
  pub same : d.inc ≡ c.inc → d.last ≡ c.last → (r : ReservationState) → d.reservation ≡ Some r → GoesOnIn c d

-- a query that lies before the client's place stays so
pub behind_more : (c d : ClientState) (a : Accepted) → Onward c d → IsBehind c a → IsBehind d a
behind_more c d a o b = grind (arith, upto_more)

-- ---- the client stays in its block

module _ (c : ClientState) where
  onward_here :
      (d : ClientState) → d.id ≡ c.id → d.inc ≡ c.inc → d.last ≡ c.last → ((r : ReservationState) → d.reservation ≡ Some r → GoesOnIn c d) → Onward c d
  onward_here d id inc last goes_on = grind arith

  onward_itself : Onward c c
  onward_itself = onward_here c refl refl refl (λ r held. record { reservation = r; held = held; acked = λ h. omega arith })

  -- the block of this reservation goes on with another one
  onward_reserved : (r s : ReservationState) → c.reservation ≡ Some r → Onward c (with_reservation c s)
  onward_reserved r s held = onward_here (with_reservation c s) refl refl refl (λ _ _. record { reservation = r; held = held; acked = λ h. omega arith })

  onward_windows :
      (ls : List WindowState) (waits : Option (HandlerId × ℕ)) → ((h : HandlerId) → acked_at h c.windows ≤ acked_at h ls) → Onward c (with_windows c ls waits)
  onward_windows ls waits more = onward_here (with_windows c ls waits) refl refl refl (λ r held. record { reservation = r; held = held; acked = more })

  -- ---- it hears

  hears_onward : (m : Message) (d : ClientState) → Notices c m d → Onward c d
  hears_onward m d (passes_over n) = onward_itself
  hears_onward m d (is_greeted h) = onward_here d refl refl refl (λ r held. record { reservation = r; held = held; acked = λ h. omega arith })
  hears_onward m d (steps_on n r s st held row) = onward_reserved r s held
  hears_onward m d (is_over n) = onward_here d refl refl refl (λ r e. absurd (cc))
  hears_onward m d (counts_on h n r l held window fresh_count) = grind (arith, acked_at_window, acknowledged_raises, onward_windows)
  hears_onward m d (gets_answer h n a r held waits) = grind (arith, onward_windows, acked_at_window, acknowledged_raises)

  pub onward_heard : (m : Message) (d : ClientState) (note : ClientNote) → HeardRow c m d note → Onward c d
  onward_heard m d note row = hears_onward m d (notices c m d note row)

  -- ---- it takes a command

  logs_raise : (e : Entry) → Raises (with_entry e)
  logs_raise e = record { handler = λ l. refl; acked = λ l. omega arith }

  ends_raise : Raises with_end
  ends_raise = record { handler = λ l. refl; acked = λ l. omega arith }

  takes_onward : (x : Command) (d : ClientState) → Takes c x d → Onward c d
  takes_onward x d (takes_reserve hs at_idle begins) = grind arith
  takes_onward x d (takes_call h q l running free window room) = grind (arith, onward_windows, acked_at_window, logs_raise)
  takes_onward x d (takes_query h q l running free window room) = grind (arith, onward_windows, acked_at_window, logs_raise)
  takes_onward x d (takes_end running free) = onward_windows d.windows d.waits (λ y. acked_all with_end ends_raise y c.windows)
  takes_onward x d (takes_give_up r held at) = onward_reserved r (at_stage r GivingBack (asked r.handlers r.left)) held

  pub onward_commanded : (x : Command) (d : ClientState) → client.command c x ≡ Ok d → Onward c d
  onward_commanded x d e = takes_onward x d (takes c d x e)
