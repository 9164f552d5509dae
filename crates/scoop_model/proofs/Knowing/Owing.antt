-- A client owes a message only to a handler that it knows. It greets handlers that it knows, and a block's handlers are among them.
-- The rest of a reservation's work is among the block's handlers, and so are the windows. Each move of the client keeps it.
use Rattle.scoop_model.proofs.Names.{◌≡◌, List, [], ◌∷◌, Some, None, refl, sym, ap, ◌∙◌, subst, arith, Ok, Option, true, false, true≢false, same_Some, AllByRecursion}
use Rattle.scoop_model.proofs.Names.{client_of, Message, HandlerId, all_found, all_made, StepRow, one_is_locked, all_are_locked, one_is_opened}
use Rattle.scoop_model.proofs.Names.{all_are_opened, is_unlocked, is_given_back, asked, has, first_unknown, started, unless_unknown}
use Rattle.scoop_model.proofs.Names.{unless_repeated, ReservationState, at_stage, GivingBack, Step, due, heard, ClientState}
use Rattle.scoop_model.proofs.Names.{with_reservation, handler_decides, nat_tests, nat_lt, Command, MayOpen, IsReached, heard_party}
use Rattle.scoop_model.proofs.Names.{restarted_party, Placement, Newcomer, new_party, opening, World, Party, is_party, set_party, party_of}
use Rattle.scoop_model.proofs.Events.{Changes}
use Rattle.scoop_model.proofs.Order.{all_set_party, and_first, has_without}
use Rattle.scoop_model.proofs.Logging.{PartyLogs, found_has}
use Rattle.scoop_model.proofs.Logging.OpeningClients.{has_filtered}
use Rattle.scoop_model.proofs.Ready.Runs.{reached_facts, reached_keeps}
use Rattle.scoop_model.proofs.Moves.{Sends, sends_hello, sends_lock, sends_open, sends_unlock, sends_back, sends_log, sends}
use Rattle.scoop_model.proofs.Moves.{Notices, passes_over, is_greeted, steps_on, is_over, hears, Takes, takes_reserve, takes_give_up, takes}

-- each handler of the one list is in the other
abbrev Within : List HandlerId → List HandlerId → Type 0
Within hs ks = (h : HandlerId) → has hs h ≡ true → has ks h ≡ true

pub record Reserved (known : List HandlerId) (r : ReservationState) : Type 0 where
  pub named : Within r.handlers known
  pub left : Within r.left known

pub record Owes (c : ClientState) : Type 0 where
  pub unwelcomed : Within c.unwelcomed c.handlers
  pub block : (r : ReservationState) → c.reservation ≡ Some r → Reserved c.handlers r

-- ---- a client hears a message

step_reserved : (known : List HandlerId) (r s : ReservationState) (m : Message) (st : Step) → StepRow r m s st → Reserved known r → Reserved known s
step_reserved known r s m st (one_is_locked h at low rest) o = record { named = o.named; left = λ x e. o.left x (has_without h x r.left e) }
step_reserved known r s m st (all_are_locked h at low all) o = record { named = o.named; left = o.named }
step_reserved known r s m st (one_is_opened h at is rest) o = record { named = o.named; left = λ x e. o.left x (has_without h x r.left e) }
step_reserved known r s m st (all_are_opened h at is all) o = record { named = o.named; left = o.named }
step_reserved known r s m st (is_unlocked h at is) o = record { named = o.named; left = λ x e. o.left x (has_without h x r.left e) }
step_reserved known r s m st (is_given_back h at is) o = record { named = o.named; left = λ x e. o.left x (has_without h x r.left e) }
step_reserved known r s m st row o = o

with_reserved : (c : ClientState) (s : ReservationState) → Owes c → Reserved c.handlers s → Owes (with_reservation c s)
with_reserved c s o reserved = record { unwelcomed = o.unwelcomed; block = λ q e. subst (Reserved c.handlers) (same_Some s q e) reserved }

hears_owing : (c : ClientState) (m : Message) (d : ClientState) → Notices c m d → Owes c → Owes d
hears_owing c m d (passes_over n) o = o
hears_owing c m d (is_greeted h) o = record { unwelcomed = λ x e. o.unwelcomed x (has_without h x c.unwelcomed e); block = o.block }
hears_owing c m d (steps_on n r s st held row) o = with_reserved c s o (step_reserved c.handlers r s n st row (o.block r held))
hears_owing c m d (is_over n) o = record { unwelcomed = o.unwelcomed; block = λ r e. absurd (cc) }
hears_owing c m d row o = record { unwelcomed = o.unwelcomed; block = o.block }

-- ---- a client takes a command

all_known : (known hs : List HandlerId) → first_unknown known hs ≡ None → Within hs known
all_known known [] e h m = absurd (true≢false (sym m))
all_known known (x ∷ xs) e h m = let rest = all_known known xs in grind (arith, nat_tests, rest, handler_decides x h)

unknown_none : (r s : ReservationState) (o : Option HandlerId) → unless_unknown r o ≡ Ok s → o ≡ None
unknown_none r s None e = refl
unknown_none r s (Some h) e = absurd (cc)

repeated_none : (r s : ReservationState) (o u : Option HandlerId) → unless_repeated r o u ≡ Ok s → u ≡ None
repeated_none r s None u e = unknown_none r s u e
repeated_none r s (Some h) u e = absurd (cc)

started_known : (b : _) (hs known : List HandlerId) (s : ReservationState) → started b hs known ≡ Ok s → first_unknown known hs ≡ None
started_known b hs known s e = grind (arith, nat_lt, repeated_none)

takes_owing : (c : ClientState) (x : Command) (d : ClientState) → Takes c x d → Owes c → Owes d
takes_owing c x d (takes_reserve ks at_idle begins) o =
    let known = all_known c.handlers ks (started_known _ ks c.handlers _ begins) in
    record { unwelcomed = o.unwelcomed; block = λ q e. subst (Reserved c.handlers) (same_Some _ q e) (record { named = known; left = known }) }
takes_owing c x d (takes_give_up r held at) o =
    let b = o.block r held in
    with_reserved c (at_stage r GivingBack (asked r.handlers r.left)) o (record { named = b.named; left = λ h e. b.named h (has_filtered _ r.handlers h e) })
takes_owing c x d t o = record { unwelcomed = o.unwelcomed; block = o.block }

-- ---- whatever happens

abbrev pub PartyOwes : Party → Type 0
PartyOwes p = Owes p.client

abbrev pub AllOwe : World → Type 0
AllOwe w = AllByRecursion PartyOwes w.parties

set_owing : (w : World) (p : Party) → AllOwe w → Owes p.client → AllByRecursion PartyOwes (set_party p w.parties)
set_owing w p i own = all_set_party PartyOwes PartyOwes p w.parties own (λ y other o. o) i

greeting_owes : (c : ClientState) → c.unwelcomed ≡ c.handlers → c.reservation ≡ None → Owes c
greeting_owes c left none = record { unwelcomed = λ h e. subst (λ hs. has hs h ≡ true) left e; block = λ r e. absurd (let f = sym none ∙ e in cc) }

pub owing_kept : (w : World) → AllOwe w → Changes AllOwe w
owing_kept w i = record {
  commands = λ c p x d at is. set_owing w (record p { client = d }) i
      (takes_owing p.client x d (takes p.client d x is) (all_found PartyOwes (is_party c) w.parties p i at));
  sends = λ c p h s at here. i;
  hears = λ k m s was goes here. i;
  notices = λ k m p was goes at. set_owing w (heard_party p (heard p.client m)) i
      (hears_owing p.client m (heard p.client m).0 (hears p.client m) (all_found PartyOwes (is_party (client_of m)) w.parties p i at));
  begins = λ h s t here is. i;
  finishes = λ h s t here is. i;
  restarts = λ c p at room. set_owing w (restarted_party p) i (greeting_owes (restarted_party p).client refl refl);
  reopens = λ n. i;
}

pub opens_owing : (ps : List Placement) (ns : List Newcomer) → MayOpen ps ns → AllOwe (opening ps ns)
opens_owing ps ns may = all_made new_party PartyOwes (λ n. greeting_owes (new_party n).client refl refl) ns

-- ---- what it shows

module _ (w : World) (p : Party) (h : HandlerId) (l : PartyLogs w p) (o : Owes p.client) where
  sends_known : (m : Message) → Sends p.client h m → has p.client.handlers h ≡ true
  sends_known m (sends_hello left) = o.unwelcomed h left
  sends_known m (sends_lock r held at low) = (o.block r held).left h (and_first (has r.left h) _ low)
  sends_known m (sends_open r held at is) = (o.block r held).left h is
  sends_known m (sends_unlock r held at is) = (o.block r held).left h is
  sends_known m (sends_back r held at is) = (o.block r held).left h is
  sends_known m (sends_log r x held free opened window some) =
      (o.block r held).named h (ap (λ ks. has ks h) (sym (l.block r held).handlers) ∙ found_has (λ y. y.handler) h p.client.windows x window)

  none_owed : has p.client.handlers h ≡ false → (d : Option Message) → due p.client h ≡ d → d ≡ None
  none_owed unknown None is = refl
  none_owed unknown (Some m) is = absurd (true≢false (sym (sends_known m (sends p.client h m is)) ∙ unknown))

-- nothing is due to a handler that the client doesn't know
pub none_due : (w : World) → IsReached w → (c : _) (p : Party) → party_of c w ≡ Some p → (h : HandlerId) → has p.client.handlers h ≡ false
    → due p.client h ≡ None
none_due w reached c p at h unknown =
    none_owed w p h (all_found (PartyLogs w) (is_party c) w.parties p (reached_facts w reached).logging.parties at)
    (all_found PartyOwes (is_party c) w.parties p (reached_keeps AllOwe owing_kept opens_owing w reached) at) unknown (due p.client h) refl
