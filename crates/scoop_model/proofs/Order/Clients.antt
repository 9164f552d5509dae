-- A client's move keeps the order. A client asks for the locks of its block one after another and notes which handlers are left.
-- A Locked that it hears was sent, so the handler has granted the lock, and a granted lock stays granted. An Open is due only once
-- no handler is left, so its block was granted at each of its handlers.
use Rattle.scoop_model.proofs.Names.{◌≡◌, ℕ, List, [], ◌∷◌, Some, refl, sym, ◌∙◌, subst, arith, true, ◌&&◌, false, true≢false, length, Bool, eqb-true}
use Rattle.scoop_model.proofs.Names.{same_Some, handler_decides, client_of, Message, HandlerId, all_found, by_test, StepRow, one_is_locked, all_are_locked}
use Rattle.scoop_model.proofs.Names.{one_is_opened, all_are_opened, is_unlocked, is_given_back, has, is_empty, without, ReservationState, Step, heard_row, due}
use Rattle.scoop_model.proofs.Names.{heard, HeardRow, ClientState, ClientNote, with_sent, with_party, heard_party, restarted_party, World, Party, is_party}
use Rattle.scoop_model.proofs.Names.{sent_at, party_of}
use Rattle.scoop_model.proofs.Order.Holding.{Upto}
use Rattle.scoop_model.proofs.Order.Facts.{IsGranted, Tells, LocksAt, ReservationFits, PartyFits, Ordered, Extends, all_more, tells_more, party_more}
use Rattle.scoop_model.proofs.Order.Facts.{all_more_of, all_pushed, all_set_party}
use Rattle.scoop_model.proofs.Moves.{Sends, sends_lock, sends_open, sends, Notices, steps_on, is_over, notices, hears}
use Rattle.scoop_model.proofs.Order.Handlers.{sent_tells}

-- ---- lists of handlers

pub has_without : (h x : HandlerId) (hs : List HandlerId) → has (without h hs) x ≡ true → has hs x ≡ true
has_without h x [] e = e
has_without h x (y ∷ ys) e = grind (arith, has_without h x ys)

-- only the one handler leaves the list
pub is_gone_one : (h x : HandlerId) (hs : List HandlerId) → has hs x ≡ true → has (without h hs) x ≡ false → h ≡ x
is_gone_one h x [] e f = absurd (true≢false (sym e))
is_gone_one h x (y ∷ ys) e f = grind (arith, handler_decides, is_gone_one h x ys)

pub none_in_empty : (hs : List HandlerId) (x : HandlerId) → is_empty hs ≡ true → has hs x ≡ false
none_in_empty [] x e = refl
none_in_empty (y ∷ ys) x e = absurd (let l = eqb-true (length (y ∷ ys)) 0 e in omega (arith, l))

pub and_first : (t u : Bool) → (t && u) ≡ true → t ≡ true
and_first true u e = refl
and_first false u e = absurd (true≢false (sym e))

-- ---- what a client owes

due_tells : (w : World) (p : Party) (h : HandlerId) → PartyFits w p → (m : Message) → Sends p.client h m → Tells w m
due_tells w p h fits m (sends_lock r held at low) =
    let f = fits.reservation r held in
    record { handlers = r.handlers; set = f.named; member = (subst (LocksAt w r) at f.locks).0 h (and_first (has r.left h) _ low) }
due_tells w p h fits m (sends_open r held at is) =
    let f = fits.reservation r held in record { handlers = r.handlers; set = f.named; granted = subst (LocksAt w r) at f.locks }
due_tells w p h fits m s = tt

pub sends_ordered : (w : World) → Ordered w → (p : Party) (h : HandlerId) → PartyFits w p → Ordered (with_sent w (due p.client h))
sends_ordered w o p h fits =
    let v : World = with_sent w (due p.client h) in
    let x : Extends w v = record { granted = λ j b g. g; sets = λ b hs e. e } in
    record {
      messages = all_pushed (Tells v) w.sent (due p.client h) (all_more_of (Tells w) (Tells v) (tells_more w v x) w.sent o.messages)
          (λ m e. tells_more w v x m (due_tells w p h fits m (sends p.client h m e)));
      sites = o.sites;
      parties = all_more_of (PartyFits w) (PartyFits v) (party_more w v x refl) w.parties o.parties;
      joint = λ b e. all_more w v x b (o.joint b e);
    }

-- ---- a client goes on, and nothing is logged

party_moves : (w : World) (p : Party) → Ordered w → PartyFits w p → Ordered (with_party w p)
party_moves w p o fits =
    let v : World = with_party w p in
    let x : Extends w v = record { granted = λ j b g. g; sets = λ b hs e. e } in
    record {
      messages = all_more_of (Tells w) (Tells v) (tells_more w v x) w.sent o.messages;
      sites = o.sites;
      parties = all_set_party (PartyFits w) (PartyFits v) p w.parties (party_more w v x refl p fits) (λ y other. party_more w v x refl y) o.parties;
      joint = λ b e. all_more w v x b (o.joint b e);
    }

-- ---- a client hears

step_fits : (w : World) (r : ReservationState) (m : Message) (s : ReservationState) (st : Step) → StepRow r m s st → ReservationFits w r → Tells w m
    → ReservationFits w s
step_fits w r m s st (one_is_locked h at low rest) f t = grind (arith, has_without, is_gone_one)
step_fits w r m s st (all_are_locked h at low all) f t =
    let l = subst (LocksAt w r) at f.locks in
    record {
      named = f.named;
      locks = λ x e.
          by_test (λ _. IsGranted w x r.block) (has r.left x)
          (λ is. subst (λ j. IsGranted w j r.block) (is_gone_one h x r.left is (none_in_empty (without h r.left) x all)) t)
          (λ is. l.1 x e is);
    }
step_fits w r m s st (one_is_opened h at is rest) f t = record { named = f.named; locks = subst (LocksAt w r) at f.locks }
step_fits w r m s st (all_are_opened h at is all) f t = record { named = f.named; locks = tt }
step_fits w r m s st (is_unlocked h at is) f t = record { named = f.named; locks = tt }
step_fits w r m s st (is_given_back h at is) f t = record { named = f.named; locks = tt }
step_fits w r m s st row f t = f

-- the client stays in its incarnation and block
pub record Keeps (w : World) (c d : ClientState) : Type 0 where
  pub id : d.id ≡ c.id
  pub inc : d.inc ≡ c.inc
  pub last : d.last ≡ c.last
  pub reservation : (r : ReservationState) → d.reservation ≡ Some r → ReservationFits w r

module _ (w : World) (c : ClientState) (fits : (r : ReservationState) → c.reservation ≡ Some r → ReservationFits w r) where
  keeps : (m : Message) (d : ClientState) → Notices c m d → Tells w m → Keeps w c d
  keeps m d (steps_on n r s st held row) t = record {
    id = refl;
    inc = refl;
    last = refl;
    reservation = λ q e. subst (ReservationFits w) (same_Some s q e) (step_fits w r m s st row (fits r held) t);
  }
  keeps m d (is_over n) t = record { id = refl; inc = refl; last = refl; reservation = λ r e. absurd (cc) }
  keeps m d n t = record { id = refl; inc = refl; last = refl; reservation = fits }

  pub keeps_row : (m : Message) (d : ClientState) (note : ClientNote) → HeardRow c m d note → Tells w m → Keeps w c d
  keeps_row m d note row t = keeps m d (notices c m d note row) t

-- a client of the world keeps its place by a message that was sent
pub keeps_hearing : (w : World) → Ordered w → (k : ℕ) (m : Message) (p : Party) → sent_at k w ≡ Some m → party_of (client_of m) w ≡ Some p
    → Keeps w p.client (heard p.client m).0
keeps_hearing w o k m p was at =
    keeps w p.client (all_found (PartyFits w) (is_party (client_of m)) w.parties p o.parties at).reservation m (heard p.client m).0 (hears p.client m)
    (sent_tells w k m was o.messages)

pub notices_ordered :
    (w : World) → Ordered w → (m : Message) (p : Party) → Tells w m → PartyFits w p → Ordered (with_party w (heard_party p (heard p.client m)))
notices_ordered w o m p tells f =
    let d = (heard p.client m).0 in
    let k = keeps_row w p.client f.reservation m d (heard p.client m).1 (heard_row p.client m) tells in
    party_moves w (heard_party p (heard p.client m)) o (record {
      stored = k.inc ∙ f.stored;
      newest = λ b hs own e.
          subst (λ i. Upto b.inc b.num i d.last) (sym k.inc) (
          subst (λ n. Upto b.inc b.num p.client.inc n) (sym k.last) (f.newest b hs (own ∙ k.id) e));
      reservation = k.reservation;
    })

-- ---- a client restarts

pub restarts_ordered : (w : World) → Ordered w → (p : Party) → PartyFits w p → Ordered (with_party w (restarted_party p))
restarts_ordered w o p f = grind (arith, party_moves)
