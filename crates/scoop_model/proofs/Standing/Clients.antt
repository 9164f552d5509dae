-- A client's move leaves each block standing where it stood, since it changes no handler. An Open is sent only of a block that
-- stands at all of its handlers. The reservation that is opening has heard a Locked from each of them, and a block whose lock was
-- granted stands there or was given up.
use Rattle.scoop_model.proofs.Names.{◌≡◌, List, Some, None, refl, sym, ◌∙◌, subst, arith, append-nil, Ok, find, option_map, true, true≢false, ◌⊎◌, inl}
use Rattle.scoop_model.proofs.Names.{block_decides, Message, Locked, Block, ClientId, HandlerId, all_found, ReservationState, Locking, due, heard, ClientState}
use Rattle.scoop_model.proofs.Names.{Command, of_party, locking_giving, by_party, id_found, with_sent, World, Party, BlockLog, set_party, is_party, log_of}
use Rattle.scoop_model.proofs.Names.{party_of, id_of, handlers_of, is_log_of, handlers_in}
use Rattle.scoop_model.proofs.Order.{IsNamed, PartyFits, Ordered}
use Rattle.scoop_model.proofs.Locking.{heard_locks, command_locks}
use Rattle.scoop_model.proofs.Logging.{Logging, IsOpenedAtAll, is_open_of, log_in, IsFrom, party_onto, sent_onto}
use Rattle.scoop_model.proofs.Logging.Openings.{Openings}
use Rattle.scoop_model.proofs.Standing.Facts.{LockedStands, ReservationStands, StageStands, Standing, StandsAt, StandsAtAll, StandsOn, reservation_more}
use Rattle.scoop_model.proofs.Standing.Facts.{reservation_on, standing_more}
use Rattle.scoop_model.proofs.Moves.{Sends, sends_hello, sends_open, sends}
use Rattle.scoop_client.specs.Commands as client

-- ---- what a client sends

module _ (w : World) (o : Ordered w) (l : Logging w) (openings : Openings w) (i : Standing w) (c : ClientId) (p : Party) (at : party_of c w ≡ Some p)
    (h : HandlerId) where
  abbrev sent_on : World
  sent_on = with_sent w (due p.client h)

  sends_on : StandsOn w sent_on
  sends_on = record { onto = sent_onto w o l openings c p at h; stands = λ x b g. inl g }

  -- an Open is sent of a block that is opening
  due_stands : (b : Block) (m : Message) → Sends p.client h m → is_open_of b m ≡ true → StandsAtAll sent_on b
  due_stands b m (sends_open r held is left) same =
      let fits = all_found (PartyFits w) (is_party c) w.parties p o.parties at in
      subst (StandsAtAll sent_on) ((block_decides r.block b).0 same) (record {
        handlers = r.handlers;
        set = (fits.reservation r held).named;
        stands = subst (StageStands w r) is (i.parties c p at r held).stage;
      })
  due_stands b m s same = absurd (true≢false (sym same))

  due_no_lock : (m : Message) → Sends p.client h m → (x : HandlerId) (b : Block) → m ≡ Locked x b → ⊥
  due_no_lock m (sends_hello left) x b is = cc
  due_no_lock m s x b is = cc

  pub sends_standing : Standing sent_on
  sends_standing =
      standing_more w sent_on sends_on i (due p.client h) refl
      (λ m e. record { stands = λ x b is. absurd (due_no_lock m (sends p.client h m e) x b is) })
      (λ b new. due_stands b new.message (sends p.client h new.message new.is) new.opens)
      i.joint
      (λ d q there r held. reservation_more w sent_on sends_on i d q there r held)

-- ---- a client goes on

module _ (w : World) (openings : Openings w) (i : Standing w) (c : ClientId) (p q : Party) (at : party_of c w ≡ Some p) (same : id_of q ≡ id_of p)
    (ls : List BlockLog)
    (sets : (b : Block) (hs : List HandlerId) → handlers_of b w ≡ Some hs → option_map handlers_in (find (is_log_of b) ls) ≡ Some hs)
    (from : (s : ReservationState) → q.client.reservation ≡ Some s → IsFrom w p.client s)
    (grown : (b : Block) (h : HandlerId) → (log_in b h ls ≡ log_of b h w) ⊎ (IsNamed w h b × IsOpenedAtAll w b))
    (stands : (s : ReservationState) → q.client.reservation ≡ Some s → ReservationStands w s) where
  -- one client goes on, and nothing is sent
  abbrev gone_on : World
  gone_on = record w { parties = set_party q w.parties; logs = ls }

  party_on : StandsOn w gone_on
  party_on = record { onto = party_onto w openings c p q at same ls sets from grown; stands = λ h b g. inl g }

  pub party_standing : Standing gone_on
  party_standing =
      standing_more w gone_on party_on i None (sym (append-nil w.sent)) (λ m e. absurd (cc)) (λ b new. absurd (let f = new.is in cc)) i.joint
      (λ d y there s has_one.
      by_party (λ r. r ≡ Some y → ReservationStands gone_on s) w q p d (subst (λ j. party_of j w ≡ Some p) (sym (id_found c w p at) ∙ sym same) at)
      (λ is e. reservation_on w gone_on party_on i s (λ h g. g) (stands s (of_party q y s e has_one)))
      (λ apart e. reservation_more w gone_on party_on i d y e s has_one) there)

-- ---- a client hears

module _ (w : World) (c : ClientId) (p : Party) (at : party_of c w ≡ Some p)
    (i : (r : ReservationState) → p.client.reservation ≡ Some r → ReservationStands w r) where
  -- the block of a reservation that locks was not given up
  told_stands :
      (r : ReservationState) → p.client.reservation ≡ Some r → r.stage ≡ Locking → (h : HandlerId) → LockedStands w (Locked h r.block) → StandsAt w h r.block
  told_stands r held is h t = grind (arith, locking_giving)

  pub heard_stands : (m : Message) → LockedStands w m → (s : ReservationState) → (heard p.client m).0.reservation ≡ Some s → ReservationStands w s
  heard_stands m t = heard_locks (StandsAt w) p.client i m (λ r held is h same. told_stands r held is h (subst (LockedStands w) same t))

  pub command_stands :
      (d : ClientState) (x : Command) → client.command p.client x ≡ Ok d → (s : ReservationState) → d.reservation ≡ Some s → ReservationStands w s
  command_stands d x e = command_locks (StandsAt w) p.client i d x e
